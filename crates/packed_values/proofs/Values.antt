-- Reading values out of an accepted record: the codecs' own answers are then the record's values, or 6; so are the answers of the calls that take the
-- header, and in exactly the room that they need they give the values. Assumes nothing.
use Prim.Native.Nat.{ℕ, ◌-◌, ◌*◌, ◌/◌, ◌^◌, ◌≤◌}
use mathlib.Core.Path.{◌≡◌, sym, ap, ◌∙◌}
use mathlib.Core.Bool.{Bool, true, false, cond}
use mathlib.Core.List.{List, [], ◌∷◌, map}
use native.Mathlib.Omega.{arith}
use borrow.Author.Tests.{le-ltb, eq-eqb}
use lib.ListN.{length}
use Rattle.error.specs.Answer.{Answer, value, refused, withdrawn, first, done, after}
use Rattle.error.proofs.Chains.{append-passed, append-refused}
use Rattle.error.specs.Checks.{wrong_room}
use Rattle.digits.specs.Digits.{number, digits}
use Rattle.bitpack.specs.Padding.{bytes_for, bad_padding}
use Rattle.bitpack.specs.Packing.{unpack_indices_of}
use Rattle.bitpack.specs.Signs.{sign_of_bit, unpack_signs_of}
use Rattle.radius.specs.Codec.{width_of, radii_for, restore_of}
use Rattle.radius.specs.declared.Range.{Range}
use Rattle.radius.specs.declared.RadiusCodecProfileV1.TheVariants.{F32, BlockLinearU16}
use Rattle.packed.specs.declared.Header.{Header}
use Rattle.packed.specs.Fields.{map_of, has_range, bits_of, bounds_of, projections_of}
use Rattle.packed.specs.Layout.{pairs_of, radii_bytes, indices_bytes, signs_bytes, header_of}
use Rattle.packed.specs.Reading.{radii_of, indices_of, signs_of, record_checks, read_record_of, fill_of, read_radii_of, read_indices_of, read_signs_of}
use Rattle.packed.proofs.Accepted.{read_accepts, read-header}
use Rattle.packed.proofs.Withdrawn.{unless-none, unless-some, read-passed, read-refused, read-withdrawn}
use Rattle.packed.proofs.Headers.{product-most}
use Rattle.packed.proofs.Parts.{length-radii, length-indices, length-signs}
use Rattle.packed_values.specs.AtHeader.{wrong_places, radii_at_of, indices_at_of, signs_at_of}
use Rattle.packed_parts.specs.Parts.{bad_places}
use Rattle.packed_parts.proofs.Handed.{radii-places, radii-cut, indices-places, indices-cut, signs-places, signs-cut}

-- the answer and the lent memory of a call that answers as another does
pub both-as : {A : Type 0} {a b : Answer A} (old : A) {new : A} {said : Answer (Unit {0})} → a ≡ b → (said ≡ done a) × (new ≡ after a old) → (said ≡ done b) × (new ≡ after b old)
both-as {A} old e h = (h.0 ∙ ap done e, h.1 ∙ ap (λ (c : Answer A). after c old) e)

-- the check of the places alone
module _ (bytes : List ℕ) (from to : ℕ) where
  pub places-refused : {A : Type 0} (a : Answer A) → bad_places (length bytes) from to ≡ true → first (wrong_places bytes from to ∷ []) a ≡ refused 13 (length bytes)
  places-refused a e = rw e

  pub places-passed : {A : Type 0} (a : Answer A) → bad_places (length bytes) from to ≡ false → first (wrong_places bytes from to ∷ []) a ≡ a
  places-passed a e = rw e

-- radii are restored from exactly the bytes that they need, or it is 6
radii-restored : (t : Bool) (count : ℕ) (range : Range) (payload : List ℕ) (room : ℕ) → let profile = cond t BlockLinearU16 F32 in
    length payload ≡ width_of profile * count → restore_of profile count range payload room ≡ first (wrong_room room count ∷ []) (value (radii_for profile count range payload))
unfolding restore_of
radii-restored true count range payload room long = rw (eq-eqb _ _ long)
radii-restored false count range payload room long = rw (eq-eqb _ _ long)

-- so are indices and signs whose padding is clear
indices-room : (packed : List ℕ) (count bits room : ℕ) → 1 ≤ bits → bits ≤ 16 → count * bits ≤ 2 ^ 64 - 1 → length packed ≡ bytes_for (count * bits) → bad_padding packed (count * bits) ≡ false
    → unpack_indices_of packed count bits room ≡ first (wrong_room room count ∷ []) (value (digits (2 ^ bits) count (number 256 packed)))
unfolding unpack_indices_of
indices-room packed count bits room least most fits long clean = rw (le-ltb bits 1 least, le-ltb 16 bits most, le-ltb (2 ^ 64 - 1) (count * bits) fits, eq-eqb _ _ long, clean)

signs-room : (packed : List ℕ) (count room : ℕ) → length packed ≡ bytes_for count → bad_padding packed count ≡ false
    → unpack_signs_of packed count room ≡ first (wrong_room room count ∷ []) (value (map sign_of_bit (digits 2 count (number 256 packed))))
unfolding unpack_signs_of
signs-room packed count room long clean = rw (eq-eqb _ _ long, clean)

module _ (bytes : List ℕ) (room : ℕ) {header : Header} (read : read_record_of bytes ≡ value header) where
  -- what is left after the reader's checks
  left : {A : Type 0} (needed : ℕ) (x : A) → first (wrong_room room needed ∷ []) (value x) ≡ fill_of bytes needed room x
  left needed x =
      let passed = read-passed bytes read in
      sym (unless-some bytes _ passed.0 ∙ append-passed (record_checks bytes) (wrong_room room needed ∷ []) (header_of bytes) (value x) passed.1)

  read_indices : (payload : List ℕ) → payload ≡ indices_bytes bytes → unpack_indices_of payload (header.dim / 2) header.bits room ≡ read_indices_of bytes room
  unfolding header_of read_indices_of indices_of
  read_indices payload e =
      let a = read_accepts bytes read in
      let used = product-most (pairs_of bytes) (bits_of bytes) 2048 16 (omega (arith, a.most)) a.most_bits in
      ap (λ (h : Header). unpack_indices_of payload (h.dim / 2) h.bits room) (read-header bytes read)
      ∙ ap (λ (l : List ℕ). unpack_indices_of l (pairs_of bytes) (bits_of bytes) room) e
      ∙ indices-room (indices_bytes bytes) (pairs_of bytes) (bits_of bytes) room a.least_bits a.most_bits (omega (arith, used)) (length-indices bytes a.total) a.indices
      ∙ left (pairs_of bytes) (indices_of bytes)

  read_signs : (payload : List ℕ) → payload ≡ signs_bytes bytes → unpack_signs_of payload header.projections room ≡ read_signs_of bytes room
  unfolding header_of read_signs_of signs_of
  read_signs payload e =
      let a = read_accepts bytes read in
      ap (λ (h : Header). unpack_signs_of payload h.projections room) (read-header bytes read)
      ∙ ap (λ (l : List ℕ). unpack_signs_of l (projections_of bytes) room) e
      ∙ signs-room (signs_bytes bytes) (projections_of bytes) room (length-signs bytes a.total) a.signs
      ∙ left (projections_of bytes) (signs_of bytes)

  -- ---- by the header at hand

  pub radii_at-read : radii_at_of bytes header room ≡ read_radii_of bytes room
  unfolding header_of read_radii_of radii_of radii_at_of
  radii_at-read =
      places-passed bytes header.radii_start header.indices_start _ (radii-places bytes read)
      ∙ ap (λ (l : List ℕ). restore_of header.profile (header.dim / 2) header.range l room) (radii-cut bytes read)
      ∙ ap (λ (h : Header). restore_of h.profile (h.dim / 2) h.range (radii_bytes bytes) room) (read-header bytes read)
      ∙ radii-restored (has_range (map_of bytes)) (pairs_of bytes) (bounds_of bytes) (radii_bytes bytes) room (length-radii bytes (read_accepts bytes read).total)
      ∙ left (pairs_of bytes) (radii_of bytes)

  pub indices_at-read : indices_at_of bytes header room ≡ read_indices_of bytes room
  unfolding indices_at_of
  indices_at-read = places-passed bytes header.indices_start header.signs_start _ (indices-places bytes read) ∙ read_indices _ (indices-cut bytes read)

  pub signs_at-read : signs_at_of bytes header room ≡ read_signs_of bytes room
  unfolding signs_at_of
  signs_at-read = places-passed bytes header.signs_start header.end _ (signs-places bytes read) ∙ read_signs _ (signs-cut bytes read)

-- a record that is refused gives no values
module _ (bytes : List ℕ) (room : ℕ) {n p : ℕ} (read : read_record_of bytes ≡ refused n p) where
  fill-refused : {A : Type 0} (needed : ℕ) (x : A) → fill_of bytes needed room x ≡ refused n p
  fill-refused needed x =
      let refusal = read-refused bytes read in
      unless-some bytes _ refusal.0 ∙ append-refused (record_checks bytes) (wrong_room room needed ∷ []) (header_of bytes) (value x) refusal.1

  pub radii_refused : read_radii_of bytes room ≡ refused n p
  unfolding read_radii_of
  radii_refused = fill-refused (pairs_of bytes) (radii_of bytes)

  pub indices_refused : read_indices_of bytes room ≡ refused n p
  unfolding read_indices_of
  indices_refused = fill-refused (pairs_of bytes) (indices_of bytes)

  pub signs_refused : read_signs_of bytes room ≡ refused n p
  unfolding read_signs_of
  signs_refused = fill-refused (projections_of bytes) (signs_of bytes)

-- nor does one that is withdrawn, whatever the room is
module _ (bytes : List ℕ) (room : ℕ) (read : read_record_of bytes ≡ withdrawn) where
  pub radii-withdrawn : read_radii_of bytes room ≡ withdrawn
  unfolding read_radii_of
  radii-withdrawn = unless-none bytes _ (read-withdrawn bytes read)

  pub indices-withdrawn : read_indices_of bytes room ≡ withdrawn
  unfolding read_indices_of
  indices-withdrawn = unless-none bytes _ (read-withdrawn bytes read)

  pub signs-withdrawn : read_signs_of bytes room ≡ withdrawn
  unfolding read_signs_of
  signs-withdrawn = unless-none bytes _ (read-withdrawn bytes read)

-- The answers of a call that decodes, case by case, from what its checks find; and what a record has that passes them. Assumes nothing.
use Prim.Native.Nat.{ℕ, ◌*◌}
use mathlib.Core.Path.{◌≡◌, refl, ap, ◌∙◌}
use mathlib.Core.Bool.{Bool, true, false, cond}
use mathlib.Core.List.{List, [], ◌∷◌}
use native.Mathlib.Omega.{arith}
use borrow.Author.Tests.{eq-eqb, ne_eqb}
use lib.ListN.{length}
use lib.Ieee.{Float}
use Rattle.error.specs.Answer.{value, refused, withdrawn, first, accepted, after}
use Rattle.error.specs.Checks.{wrong_room}
use Rattle.error.proofs.Chains.{first-passed, first-refused, append-passed, append-refused, append_left}
use Rattle.error.proofs.Answers.{after-value}
use Rattle.setup.specs.Lent.{Lent}
use Rattle.setup.specs.declared.Setup.{Setup}
use Rattle.setup_tables.specs.Checks.{entry_checks, setup_checks, setup_checks_but_entries}
use Rattle.setup_rotation.specs.Rotations.{unrotated_by, turn_checks, rotate_back_of}
use Rattle.setup_rotation.proofs.Rotations.{rotate_back-value}
use Rattle.setup_rotation.proofs.Turnable.{setup-turnable}
use Rattle.radius.specs.Codec.{bad_profile}
use Rattle.radius.specs.declared.RadiusCodecProfileV1.TheVariants.{F32, BlockLinearU16}
use Rattle.polar.specs.Polar.{decoded_pairs}
use Rattle.polar_blocks.specs.Payload.{fits_payload, payload_pairs_of}
use Rattle.polar_blocks.proofs.Told.{fits-made, pairs-fitting}
use Rattle.packed.specs.declared.Header.{Header}
use Rattle.packed.specs.Fields.{map_of, has_range, profile_of, bits_of, bounds_of}
use Rattle.packed.specs.Layout.{pairs_of, radii_bytes, indices_bytes, header_of}
use Rattle.packed.specs.Reading.{unless_withdrawn, read_record_of, radii_of, indices_of}
use Rattle.packed.proofs.Accepted.{read_accepts, read-header}
use Rattle.packed.proofs.Withdrawn.{unless-none, unless-some}
use Rattle.packed.proofs.Parts.{header-pairs, length-radii, length-indices}
use Rattle.turbo_opening.specs.Opening.{open_checks}
use Rattle.turbo_opening.specs.Inner.{opened_of}
use Rattle.turbo_opening.proofs.Answers.{opened-passed, opened-refused, opened-withdrawn, opened-as-read, opened-accepted, opened-dim}
use Rattle.turbo_decode.specs.Decode.{decoded, decode_checks, decode_approximate_of}
use Rattle.turbo_decode.specs.Inner.{Paired, Decodable}

module _ (s : Setup) (l : Lent) (bytes : List ℕ) (room : ℕ) where
  -- ---- the answers

  -- the setup passes
  module _ (passed : first (setup_checks s l) accepted ≡ accepted) where
    decode-rest : decode_approximate_of s l bytes room ≡ unless_withdrawn bytes (first (decode_checks s bytes room) (value (decoded s l bytes)))
    unfolding decode_approximate_of
    decode-rest = first-passed (setup_checks s l) _ passed

    pub decode-withdrawn : opened_of s bytes ≡ withdrawn → decode_approximate_of s l bytes room ≡ withdrawn
    decode-withdrawn e = decode-rest ∙ unless-none bytes _ (opened-withdrawn s bytes e)

    pub decode-closed : {number place : ℕ} → opened_of s bytes ≡ refused number place → decode_approximate_of s l bytes room ≡ refused number place
    decode-closed e =
        let refusal = opened-refused s bytes e in
        decode-rest ∙ unless-some bytes _ refusal.0 ∙ append-refused (open_checks s bytes) (wrong_room room s.dim ∷ []) (header_of bytes) _ refusal.1

    module _ {header : Header} (opened : opened_of s bytes ≡ value header) where
      decode-last : decode_approximate_of s l bytes room ≡ first (wrong_room room s.dim ∷ []) (value (decoded s l bytes))
      decode-last =
          let read = opened-passed s bytes opened in
          decode-rest ∙ unless-some bytes _ read.0 ∙ append-passed (open_checks s bytes) (wrong_room room s.dim ∷ []) (header_of bytes) _ read.1

      pub decode-room : (room ≡ s.dim → ⊥) → decode_approximate_of s l bytes room ≡ refused 6 s.dim
      decode-room h = decode-last ∙ simp (ne_eqb room s.dim h)

      pub decode-value : room ≡ s.dim → decode_approximate_of s l bytes room ≡ value (decoded s l bytes)
      decode-value h = decode-last ∙ simp (eq-eqb room s.dim h)

      -- ---- what the record then has

      pub decode-paired : room ≡ s.dim → Paired bytes header room
      decode-paired h =
          let read = opened-as-read s bytes opened in
          let even = (opened-accepted s bytes opened).even in
          record { read = read; double = omega (arith, h, opened-dim s bytes opened, even, header-pairs bytes (read-header bytes read)) }

      pub decode-ready : room ≡ s.dim → Decodable s l.rotation bytes header room
      decode-ready h =
          record { paired = decode-paired h; turnable = rw h (setup-turnable s l (append_left (setup_checks_but_entries s l) (entry_checks l.matrix) accepted passed)) }

  -- the setup is refused
  pub decode-setup : {number place : ℕ} → first (setup_checks s l) accepted ≡ refused number place → decode_approximate_of s l bytes room ≡ refused number place
  unfolding decode_approximate_of
  decode-setup e = first-refused (setup_checks s l) _ e

-- ---- the steps of decoding: none refuses

-- the profile that a map byte tells is not refused
profile-known : (t : Bool) → bad_profile (cond t BlockLinearU16 F32) ≡ false
profile-known true = refl
profile-known false = refl

-- the payloads of the record fit
payloads-fit : (bytes : List ℕ) {header : Header} → read_record_of bytes ≡ value header → fits_payload (profile_of (map_of bytes)) (radii_bytes bytes) (indices_bytes bytes) (bits_of bytes) (pairs_of bytes) ≡ true
payloads-fit bytes read =
    let a = read_accepts bytes read in
    let held = length-indices bytes a.total in
    fits-made _ _ _ (bits_of bytes) (pairs_of bytes) (omega (arith, a.most)) a.least_bits a.most_bits (profile-known (has_range (map_of bytes))) (length-radii bytes a.total) (omega (arith, held))

-- the values of the record's pairs
pub paired-values : (directions values : List Float) (bytes : List ℕ) (header : Header) (radii indices : List ℕ) → Paired bytes header (length values) → radii ≡ radii_bytes bytes → indices ≡ indices_bytes bytes
    → payload_pairs_of directions header.profile header.range radii indices header.bits values ≡ decoded_pairs directions (indices_of bytes) (radii_of bytes)
unfolding header_of indices_of radii_of
paired-values directions values bytes header radii indices p e f =
    ap (λ (h : Header). payload_pairs_of directions h.profile h.range radii indices h.bits values) (read-header bytes p.read)
    ∙ ap (λ (l : List ℕ). payload_pairs_of directions (profile_of (map_of bytes)) (bounds_of bytes) l indices (bits_of bytes) values) e
    ∙ ap (λ (l : List ℕ). payload_pairs_of directions (profile_of (map_of bytes)) (bounds_of bytes) (radii_bytes bytes) l (bits_of bytes) values) f
    ∙ pairs-fitting directions _ _ (radii_bytes bytes) (indices_bytes bytes) (bits_of bytes) (pairs_of bytes) values (p.double ∙ ap (λ (k : ℕ). 2 * k) (header-pairs bytes (read-header bytes p.read))) (payloads-fit bytes p.read)

-- the values rotated back
pub values-back : (s : Setup) (entries xs ys : List Float) (n : ℕ) → first (turn_checks s entries n n) accepted ≡ accepted → length xs ≡ n → xs ≡ ys → after (rotate_back_of s entries xs (length xs)) xs ≡ unrotated_by s entries ys
values-back s entries xs ys n e l f =
    after-value _ xs (rotate_back-value s entries xs (length xs) (ap (λ (k : ℕ). first (turn_checks s entries k k) accepted) l ∙ e))
    ∙ ap (unrotated_by s entries) f

-- The payloads that are handed back: the parts that the header of an accepted record gives, and nothing for a refused or a withdrawn one, each at its place in
-- the record's own memory. Assumes nothing.
use Prim.Native.Nat.{ℕ, ◌+◌, ◌≤◌}
use mathlib.Core.Path.{◌≡◌, refl, sym, ap, ◌∙◌}
use mathlib.Core.Bool.{false}
use mathlib.Core.List.{List}
use native.Mathlib.Omega.{arith}
use denote.Ref.{Bor}
use lib.ListN.{length, take, drop}
use Rattle.error.specs.Answer.{Answer, value, refused, withdrawn}
use Rattle.packed.specs.declared.Header.{Header}
use Rattle.packed.specs.Layout.{radii_bytes, indices_bytes, signs_bytes}
use Rattle.packed.specs.Reading.{read_record_of, part_where, radii_part_of, indices_part_of, signs_part_of}
use Rattle.packed.proofs.Accepted.{read_accepts, read-header}
use Rattle.packed.proofs.Parts.{Ordered, ordered, radii_part, indices_part, signs_part}
use Rattle.packed_parts.specs.declared.Places.{Places}
use Rattle.packed_parts.specs.Parts.{nowhere, places_in, locate_of, bad_places, cut_of, cut_start, Inside}
use Rattle.packed_parts.proofs.Cuts.{places-good, places-order, cut_inside, start-inside, length_cut, cut-none}

-- ---- by the header that was read

module _ (bytes : List ℕ) {header : Header} (read : read_record_of bytes ≡ value header) where
  -- the header's places lie in the record, in their order
  pub read-within : Ordered header (length bytes)
  read-within =
      let o = ordered bytes (read-header bytes read) in
      record { first = o.first; second = o.second; third = o.third; last = o.last ∙ sym (read_accepts bytes read).total }

  pub radii-places : bad_places (length bytes) header.radii_start header.indices_start ≡ false
  radii-places = let w = read-within in places-good _ _ _ w.first (omega (arith, w.second, w.third, w.last))

  pub indices-places : bad_places (length bytes) header.indices_start header.signs_start ≡ false
  indices-places = let w = read-within in places-good _ _ _ w.second (omega (arith, w.third, w.last))

  pub signs-places : bad_places (length bytes) header.signs_start header.end ≡ false
  signs-places = let w = read-within in places-good _ _ _ w.third (omega (arith, w.last))

  -- and what lies between them is the payloads
  pub radii-cut : cut_of bytes header.radii_start header.indices_start ≡ radii_bytes bytes
  radii-cut = cut_inside bytes _ _ radii-places ∙ radii_part bytes (read-header bytes read)

  pub indices-cut : cut_of bytes header.indices_start header.signs_start ≡ indices_bytes bytes
  indices-cut = cut_inside bytes _ _ indices-places ∙ indices_part bytes (read-header bytes read)

  pub signs-cut : cut_of bytes header.signs_start header.end ≡ signs_bytes bytes
  signs-cut = cut_inside bytes _ _ signs-places ∙ signs_part bytes (read-header bytes read)

-- ---- by the places that were found, of a record that is read, refused or withdrawn

-- a payload, from one of the places to another: these lie in order, and the bytes between them are the payload
pub record Payload (bytes : List ℕ) (from to : Places → ℕ) (part : List ℕ) : Type 0 where
  pub good : bad_places (length bytes) (from (locate_of bytes)) (to (locate_of bytes)) ≡ false
  pub is : cut_of bytes (from (locate_of bytes)) (to (locate_of bytes)) ≡ part

module _ (bytes : List ℕ) where
  payload : (from to : Places → ℕ) (part : List ℕ)
      → ((header : Header) → read_record_of bytes ≡ value header → (bad_places (length bytes) (from (places_in (value header))) (to (places_in (value header))) ≡ false) × (cut_of bytes (from (places_in (value header))) (to (places_in (value header))) ≡ part))
      → from nowhere ≡ 0 → to nowhere ≡ 0
      → Payload bytes from to (part_where (read_record_of bytes) part)
  unfolding locate_of
  payload from to part accepted start stop = let both = split (read_record_of bytes) refl in record { good = both.0; is = both.1 }
    where
      split : (a : Answer Header) → read_record_of bytes ≡ a → (bad_places (length bytes) (from (places_in a)) (to (places_in a)) ≡ false) × (cut_of bytes (from (places_in a)) (to (places_in a)) ≡ part_where a part)
      split (value header) e = accepted header e
      split (refused n p) e = rw (start, stop) (places-good (length bytes) 0 0 (omega arith) (omega arith), cut-none bytes)
      split withdrawn e = rw (start, stop) (places-good (length bytes) 0 0 (omega arith) (omega arith), cut-none bytes)

  pub radii-payload : Payload bytes (λ p. p.radii) (λ p. p.indices) (radii_part_of bytes)
  unfolding radii_part_of
  radii-payload = payload (λ p. p.radii) (λ p. p.indices) (radii_bytes bytes) (λ header e. (radii-places bytes e, radii-cut bytes e)) refl refl

  pub indices-payload : Payload bytes (λ p. p.indices) (λ p. p.signs) (indices_part_of bytes)
  unfolding indices_part_of
  indices-payload = payload (λ p. p.indices) (λ p. p.signs) (indices_bytes bytes) (λ header e. (indices-places bytes e, indices-cut bytes e)) refl refl

  pub signs-payload : Payload bytes (λ p. p.signs) (λ p. p.end) (signs_part_of bytes)
  unfolding signs_part_of
  signs-payload = payload (λ p. p.signs) (λ p. p.end) (signs_bytes bytes) (λ header e. (signs-places bytes e, signs-cut bytes e)) refl refl

-- two facts at once are the two clauses of a contract, under their names
pub held_stands : {A B : Type 0} → A × B → record { held : A; stands : B }
held_stands p = record { held = p.0; stands = p.1 }

-- the payload by its start and its length
module _ {bytes : List ℕ} {from to : Places → ℕ} {part : List ℕ} (p : Payload bytes from to part) where
  payload-within : from (locate_of bytes) + length part ≤ length bytes
  payload-within =
      let o = places-order (length bytes) (from (locate_of bytes)) (to (locate_of bytes)) p.good in
      let l = sym (ap length p.is) ∙ length_cut bytes (from (locate_of bytes)) (to (locate_of bytes)) p.good in
      omega (arith, o.0, o.1, l)

  payload-taken : take (length part) (drop (from (locate_of bytes)) bytes) ≡ part
  payload-taken =
      ap (λ (n : ℕ). take n (drop (from (locate_of bytes)) bytes)) (sym (ap length p.is) ∙ length_cut bytes _ _ p.good)
      ∙ sym (cut_inside bytes _ _ p.good)
      ∙ p.is

module _ {bytes : List ℕ} {from to : Places → ℕ} {part : List ℕ} (p : Payload bytes from to part) {found : Places} (located : found ≡ locate_of bytes) where
  -- a cut at the places that were found holds the payload, at its place in the record's memory
  pub payload-handed : {whole r : Bor (List ℕ)} → (r.now ≡ cut_of bytes (from found) (to found)) × Inside whole r (cut_start bytes (from found) (to found)) → (r.now ≡ part) × Inside whole r (from (locate_of bytes))
  payload-handed {whole} cut = (
    cut.0 ∙ ap (λ (q : Places). cut_of bytes (from q) (to q)) located ∙ p.is,
    record {
      block = cut.1.block;
      offset = cut.1.offset ∙ ap (λ (n : ℕ). n + whole.ref_ptr.1) (ap (λ (q : Places). cut_start bytes (from q) (to q)) located ∙ start-inside bytes _ _ p.good);
    },
  )

  -- and it is told by a start and a length
  pub payload-told : {held : List ℕ} → held ≡ cut_of bytes (from found) (to found)
      → (from found ≡ from (locate_of bytes)) × ((length held ≡ length part) × ((from found + length held ≤ length bytes) × (take (length held) (drop (from found) bytes) ≡ part)))
  payload-told cut =
      let start = ap from located in
      let long = ap length (cut ∙ ap (λ (q : Places). cut_of bytes (from q) (to q)) located ∙ p.is) in (
        start,
        (
          long,
          (
            omega (arith, start, long, payload-within p),
            ap (λ (n : ℕ). take n (drop (from found) bytes)) long ∙ ap (λ (n : ℕ). take (length part) (drop n bytes)) start ∙ payload-taken p,
          ),
        ),
      )

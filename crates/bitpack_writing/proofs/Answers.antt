-- The answers of packing, case by case, as the code comes to them: by the answers of its own checks. Assumes nothing.
use Prim.Native.Nat.{ℕ, ◌*◌, ◌^◌, ◌≤◌, ◌<◌}
use mathlib.Core.Path.{◌≡◌, refl, sym, ◌∙◌}
use mathlib.Core.List.{List, [], ◌∷◌}
use native.Mathlib.Nat.{le_antisymm}
use lib.ListN.{length, get_or}
use borrow.Author.Tests.{lt-ltb, le-ltb, leb-false, eq-eqb, ne_eqb}
use Rattle.error.specs.Answer.{value, refused, place, each, first}
use Rattle.error.proofs.Places.{place-le, place-passed}
use Rattle.digits.specs.Digits.{number, digits}
use Rattle.error.specs.Checks.{wrong_bits, wrong_room, bad_index}
use Rattle.bitpack.specs.Padding.{bytes_for}
use Rattle.bitpack.specs.Packing.{packed_len_of, pack_indices_of, wrong_overflow}
use Rattle.bitpack.proofs.Answers.{measured}
use Rattle.bitpack_writing.specs.Inner.{Packable}
use Rattle.error.proofs.Chains.{append-refused, append-passed}

module _ (indices : List ℕ) (bits room : ℕ) where
  pub pack-no-length : {n p : ℕ} → packed_len_of (length indices) bits ≡ refused n p → pack_indices_of indices bits room ≡ refused n p
  unfolding packed_len_of pack_indices_of
  pack-no-length e =
      append-refused
      (wrong_bits bits ∷ wrong_overflow (length indices) bits ∷ [])
      (each (bad_index bits) 15 indices ∷ wrong_room room (bytes_for (length indices * bits)) ∷ [])
      _ _ e

  module _ {need : ℕ} (told : packed_len_of (length indices) bits ≡ value need) where
    pack-rest : pack_indices_of indices bits room ≡ first (each (bad_index bits) 15 indices ∷ wrong_room room need ∷ []) (value (digits 256 need (number (2 ^ bits) indices)))
    unfolding packed_len_of pack_indices_of
    pack-rest =
        append-passed
        (wrong_bits bits ∷ wrong_overflow (length indices) bits ∷ [])
        (each (bad_index bits) 15 indices ∷ wrong_room room (bytes_for (length indices * bits)) ∷ [])
        _ _ told
        ∙ rw (measured (length indices) bits told).is

    -- `found` is what a search for the first index that is too large came to
    module _ {found : ℕ} (is : found ≡ place (bad_index bits) indices) where
      pub pack-large : found < length indices → pack_indices_of indices bits room ≡ refused 15 found
      pack-large h = pack-rest ∙ rw (← is) (simp (lt-ltb _ _ h))

      pub pack-no-room : length indices ≤ found → (room ≡ need → ⊥) → pack_indices_of indices bits room ≡ refused 6 need
      pack-no-room all h = pack-rest ∙ rw (← is) (simp (le-ltb _ _ all, ne_eqb _ _ h))

      pub pack-value : length indices ≤ found → room ≡ need → pack_indices_of indices bits room ≡ value (digits 256 room (number (2 ^ bits) indices))
      pack-value all h = pack-rest ∙ rw (← is, h) (simp (le-ltb _ _ all, eq-eqb need need refl))

      pub packable : length indices ≤ found → room ≡ need → Packable indices bits room
      packable all h =
          let m = measured (length indices) bits told in
          let whole = le_antisymm (place-le (bad_index bits) indices) (rw is at all) in
          record {
            wide = m.wide;
            narrow = m.narrow;
            small = λ i g. leb-false (2 ^ bits) (get_or indices i 0) (place-passed (bad_index bits) indices 0 whole i g);
            exact = h ∙ sym m.is;
          }

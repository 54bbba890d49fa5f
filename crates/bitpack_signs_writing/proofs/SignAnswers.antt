-- The answers of packing signs, case by case, as the code comes to them. Assumes nothing.
use Prim.Native.Nat.{ℕ, ◌≤◌, ◌<◌}
use mathlib.Core.Path.{◌≡◌, refl}
use mathlib.Core.List.{List, map}
use lib.IntN.{ℤ}
use lib.ListN.{length}
use borrow.Author.Tests.{lt-ltb, le-ltb, eq-eqb, ne_eqb}
use Rattle.error.specs.Answer.{value, refused, place}
use Rattle.digits.specs.Digits.{number, digits}
use Rattle.bitpack.specs.Padding.{bytes_for}
use Rattle.bitpack.specs.Signs.{bad_sketch_sign, bit_of_sign, pack_signs_of}

-- `found` is what a search for the first number that is no sign came to, `need` how many bytes the signs take
module _ (signs : List ℤ) (room : ℕ) {found : ℕ} (is : found ≡ place bad_sketch_sign signs) where
  pub pack_signs-bad : found < length signs → pack_signs_of signs room ≡ refused 10 found
  unfolding pack_signs_of
  pack_signs-bad h = rw (← is) (simp (lt-ltb _ _ h))

  module _ (all : length signs ≤ found) {need : ℕ} (rounded : need ≡ bytes_for (length signs)) where
    pub pack-signs-no-room : (room ≡ need → ⊥) → pack_signs_of signs room ≡ refused 6 need
    unfolding pack_signs_of
    pack-signs-no-room h = rw (← is, ← rounded) (simp (le-ltb _ _ all, ne_eqb _ _ h))

    pub pack-signs-value : room ≡ need → pack_signs_of signs room ≡ value (digits 256 room (number 2 (map bit_of_sign signs)))
    unfolding pack_signs_of
    pack-signs-value h = rw (← is, ← rounded, h) (simp (le-ltb _ _ all, eq-eqb need need refl))

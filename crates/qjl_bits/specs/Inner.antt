-- Private functions of this crate tell this to their callers. No public promise is stated by this. Assumes nothing.
use Rattle.std.specs.Prelude.{ℕ, ◌/◌, ◌%◌, List, [], ◌∷◌, Float}
use Rattle.std.specs.Float.{binary32}
use Rattle.std.specs.Float.Ieee.{add, mul, of_int}
use Rattle.bitpack.specs.Signs.{sign_of_bit}

-- This is the sum of values, each with the sign of its bit of y, the lowest bit first, from `acc`, the sum so far.
unfoldable pub bit_sum_from : Float → ℕ → List Float → Float
bit_sum_from acc y [] = acc
bit_sum_from acc y (v ∷ vs) = bit_sum_from (add binary32 acc (mul binary32 (of_int binary32 (sign_of_bit (y % 2))) v)) (y / 2) vs

-- These say what each call of `ScalarCodebook` answers, refusals included, with each float step rounded once, in the Rust's order. 'Every codebook call: 1, 17, then
-- its value.' Assumes nothing.
use Rattle.std.specs.Prelude.{ℕ, ◌-◌, ◌^◌, min, not, ◌||◌, List, [], ◌∷◌, pos, Float}
use Rattle.std.specs.Float.{binary32}
use Rattle.std.specs.Float.Ieee.{add, sub, mul, div, le, of_int, of_bits}
use Rattle.std.specs.Float.Ieee.Scale.{finite}
use Rattle.error.specs.Answer.{Answer, value, Check, check, first}
use Rattle.error.specs.Checks.{wrong_bits, wrong_index}
use Rattle.float.specs.Rounding.{floor_unsigned, clamped}
use Rattle.codebook.specs.declared.ScalarCodebook.{ScalarCodebook}

-- '17: a bound not finite, or min above max; for a codebook also min equal to max. Place 0.'
abbrev pub wrong_bounds : Float → Float → Check
wrong_bounds lo hi = check (not (finite lo) || not (finite hi) || le hi lo) 17 0

-- '11: a value is not finite ..' There is one value here, and its place is 0.
abbrev pub wrong_value : Float → Check
wrong_value x = check (not (finite x)) 11 0

-- This is the number of levels that `bits` bits have, as a float.
abbrev pub levels_float : ℕ → Float
levels_float bits = of_int binary32 (pos (2 ^ bits))

-- The level of a value is ((clipped − min) / (max − min)) × levels, cut to a whole number and at most the last; 'a NaN quotient gives index 0'.
unfoldable pub level_of : ℕ → Float → Float → Float → ℕ
level_of bits lo hi x =
    min
    (floor_unsigned 32 (mul binary32 (div binary32 (sub binary32 (clamped lo hi x) lo) (sub binary32 hi lo)) (levels_float bits)))
    (2 ^ bits - 1)

-- The middle of a level is min + (index + 0.5) × ((max − min) / levels), each step rounded; 3F000000 is 0.5.
unfoldable pub middle_of : ℕ → Float → Float → ℕ → Float
middle_of bits lo hi index =
    add binary32 lo
    (mul binary32
    (add binary32 (of_int binary32 (pos index)) (of_bits binary32 0x3F00_0000))
    (div binary32 (sub binary32 hi lo) (levels_float bits)))

-- 'Every codebook call: 1, 17, then its value.' `more` is what a call checks of its value.
abbrev pub codebook_checks : ℕ → Float → Float → List Check → List Check
codebook_checks bits lo hi more = wrong_bits bits ∷ wrong_bounds lo hi ∷ more

unfoldable pub uniform_of : ℕ → Float → Float → Answer ScalarCodebook
uniform_of bits lo hi =
    first (codebook_checks bits lo hi [])
    (value (record { bits = bits; min = lo; max = hi }))

unfoldable pub levels_of : ℕ → Float → Float → Answer ℕ
levels_of bits lo hi =
    first (codebook_checks bits lo hi [])
    (value (2 ^ bits))

unfoldable pub quantize_of : ℕ → Float → Float → Float → Answer ℕ
quantize_of bits lo hi x =
    first (codebook_checks bits lo hi (wrong_value x ∷ []))
    (value (level_of bits lo hi x))

unfoldable pub dequantize_midpoint_of : ℕ → Float → Float → ℕ → Answer Float
dequantize_midpoint_of bits lo hi index =
    first (codebook_checks bits lo hi (wrong_index bits index ∷ []))
    (value (middle_of bits lo hi index))

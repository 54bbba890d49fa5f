-- Computed: document 01's worked example of an angle with its neighbours, and polar sums and pairs of one code. Assumes nothing.
use Rattle.std.proofs.Common.{◌≡◌, ℕ, true, false, [], ◌∷◌, pos, refl}
use lib.Ieee.{Float, fin, binary32, add, sub, mul, div, of_int, of_bits}
use Rattle.error.specs.Answer.{value, refused}
use Rattle.rounding.specs.Butterfly.{from}
use Rattle.rounding.specs.Sums.{running}
use Rattle.polar.specs.Angle.{dequantize_angle_of, radians, twice_pi}
use Rattle.float.specs.Constants.{pi}
use Rattle.polar.specs.Polar.{term, polar_sum_of, laid, decoded_pairs, polar_pairs_of}

-- a small odd number, or 0
abbrev float : ℕ → Float
float n = fin false n (pos 0)

-- P10: 'With 1 bit, index 1 has angle 0.'
pub p10 : dequantize_angle_of 1 1 ≡ value (fin false 0 (pos 0))
unfolding dequantize_angle_of radians twice_pi pi sub mul div of_int of_bits
p10 = refl

-- index 0 is -PI, C0490FDB
pub angle-first : dequantize_angle_of 8 0 ≡ value (of_bits binary32 0xC049_0FDB)
unfolding dequantize_angle_of radians twice_pi pi sub mul div of_int of_bits
angle-first = refl

-- 1 counts before 15
pub angle-wide : dequantize_angle_of 17 65535 ≡ refused 1 17
unfolding dequantize_angle_of
angle-wide = refl

pub angle-none : dequantize_angle_of 0 1 ≡ refused 1 0
unfolding dequantize_angle_of
angle-none = refl

-- '15: index at or above 2^bits. Place: .. for .. a single angle, 0.'
pub angle-past : dequantize_angle_of 2 4 ≡ refused 15 0
unfolding dequantize_angle_of
angle-past = refl

-- the table of 1 bit, with a sine of 0 for -PI; a query (3, 5, 1, 1); indices 1 and 0; radii 2 and 1: 2 × (3 × 1 + 5 × 0) + 1 × (1 × -1 + 1 × 0)
pub sum-of-two : polar_sum_of (float 3 ∷ float 5 ∷ float 1 ∷ float 1 ∷ []) (fin true 1 (pos 0) ∷ float 0 ∷ float 1 ∷ float 0 ∷ []) (1 ∷ 0 ∷ []) (fin false 1 (pos 1) ∷ float 1 ∷ []) ≡ float 5
unfolding polar_sum_of term running from add mul
sum-of-two = refl

-- no pairs: +0.0
pub sum-of-none : polar_sum_of [] [] [] [] ≡ float 0
unfolding polar_sum_of running from
sum-of-none = refl

-- r × c and r × s, of radius 5 and the direction (-1, 0)
pub pairs_of-one : polar_pairs_of (fin true 1 (pos 0) ∷ float 0 ∷ []) (0 ∷ []) (float 5 ∷ []) 2 ≡ value (fin true 5 (pos 0) ∷ float 0 ∷ [])
unfolding polar_pairs_of decoded_pairs laid from mul
pairs_of-one = refl

pub pairs-short : polar_pairs_of [] [] (float 5 ∷ []) 3 ≡ refused 6 2
unfolding polar_pairs_of
pairs-short = refl

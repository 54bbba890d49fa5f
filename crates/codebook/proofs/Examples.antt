-- Computed answers of codebooks at their edges: ends of the range, ranges whose width overflows, equal bounds and the two zeros.
-- Floats are given by their patterns. Assumes nothing.
use Prim.Native.Nat.{ℕ}
use mathlib.Core.Path.{◌≡◌, refl}
use mathlib.Core.Bool.{false}
use lib.Ieee.{Float, nan, inf, binary32, of_bits, sub, div, mul, add, lt, le, of_int, to_unsigned}
use Rattle.error.specs.Answer.{value, refused}
use Rattle.float.specs.Rounding.{clamped}
use Rattle.codebook.specs.Codebook.{quantize_of, dequantize_midpoint_of, levels_of, level_of, middle_of}

abbrev float : ℕ → Float
float bits = of_bits binary32 bits

-- 'A range whose width overflows is accepted; a NaN quotient gives index 0': bounds of minus and plus the largest f32, and the largest value of all
largest-width : sub binary32 (float 0x7F7F_FFFF) (float 0xFF7F_FFFF) ≡ inf false
unfolding of_bits sub
largest-width = refl

largest-quotient : div binary32 (inf false) (inf false) ≡ nan
unfolding div
largest-quotient = refl

quantize-nan-quotient : quantize_of 8 (float 0xFF7F_FFFF) (float 0x7F7F_FFFF) (float 0x7F7F_FFFF) ≡ value 0
unfolding of_bits sub div mul lt le of_int to_unsigned quantize_of level_of clamped
quantize-nan-quotient = refl

-- 'a midpoint may be infinite'
midpoint-infinite : dequantize_midpoint_of 8 (float 0xFF7F_FFFF) (float 0x7F7F_FFFF) 0 ≡ value (inf false)
unfolding of_bits sub div mul add le of_int dequantize_midpoint_of middle_of
midpoint-infinite = refl

-- from −1 to 1 in four levels: the upper bound is in the last level, and what lies outside counts as at the nearest bound
quantize-bounds : quantize_of 2 (float 0xBF80_0000) (float 0x3F80_0000) (float 0x3F80_0000) ≡ value 3
unfolding of_bits sub div mul lt le of_int to_unsigned quantize_of level_of clamped
quantize-bounds = refl

quantize-outside : quantize_of 2 (float 0xBF80_0000) (float 0x3F80_0000) (float 0xC120_0000) ≡ value 0
unfolding of_bits sub div mul lt le of_int to_unsigned quantize_of level_of clamped
quantize-outside = refl

-- the third of them starts at 0, and its middle is 0.25
quantize-zero : quantize_of 2 (float 0xBF80_0000) (float 0x3F80_0000) (float 0x0000_0000) ≡ value 2
unfolding of_bits sub div mul lt le of_int to_unsigned quantize_of level_of clamped
quantize-zero = refl

midpoint-third : dequantize_midpoint_of 2 (float 0xBF80_0000) (float 0x3F80_0000) 2 ≡ value (float 0x3E80_0000)
unfolding of_bits sub div mul add le of_int dequantize_midpoint_of middle_of
midpoint-third = refl

-- '15: index at or above 2^bits. Place: its index; for a codebook or a single angle, 0'
midpoint-past : dequantize_midpoint_of 2 (float 0xBF80_0000) (float 0x3F80_0000) 4 ≡ refused 15 0
unfolding of_bits le dequantize_midpoint_of
midpoint-past = refl

-- 1 counts before 17, and 17 before the value
levels-bits : levels_of 17 (float 0x7FC0_0000) (float 0x0000_0000) ≡ refused 1 17
unfolding of_bits levels_of
levels-bits = refl

-- the two zeros are equal, so they bound nothing
levels-zeros : levels_of 4 (float 0x8000_0000) (float 0x0000_0000) ≡ refused 17 0
unfolding of_bits le levels_of
levels-zeros = refl

quantize-infinite : quantize_of 4 (float 0x0000_0000) (float 0x3F80_0000) (float 0x7F80_0000) ≡ refused 11 0
unfolding of_bits le quantize_of
quantize-infinite = refl

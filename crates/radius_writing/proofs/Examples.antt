-- Computed answers of compress: document 01's worked example P11, a narrow range, the two zeros, no radii and the order of refusals. Assumes nothing.
use mathlib.Core.Path.{◌≡◌, refl}
use mathlib.Core.List.{List, [], ◌∷◌, flat_map}
use lib.Ieee.{Float, of_bits, to_bits, sub, mul, div, lt}
use Rattle.error.specs.Answer.{value, refused, place}
use Rattle.digits.specs.Digits.{digits}
use Rattle.float.specs.Bytes.{to_le_bytes}
use Rattle.float.specs.Rounding.{clamped, round_unsigned}
use Rattle.radius.specs.Radii.{least, greatest, range_of}
use Rattle.radius.specs.Linear.{span_of, quantize_radius_of, linear_bytes}
use Rattle.radius.specs.Codec.{compress_range_of, compress_bytes_of}
use Rattle.radius.specs.declared.RadiusCodecProfileV1.TheVariants.{F32, BlockLinearU16, BlockLogU8}
use Rattle.radius.proofs.Examples.{float, up_to, between}

-- P11. '(0, 0.5, 1): 00 00 00 80 FF FF.'
abbrev pub halves : List Float
halves = float 0x0000_0000 ∷ float 0x3F00_0000 ∷ float 0x3F80_0000 ∷ []

pub compress-halves : compress_bytes_of halves BlockLinearU16 6 ≡ value (0x00 ∷ 0x00 ∷ 0x00 ∷ 0x80 ∷ 0xFF ∷ 0xFF ∷ [])
unfolding flat_map of_bits sub mul div lt place digits round_unsigned least greatest range_of clamped span_of quantize_radius_of linear_bytes compress_bytes_of
compress-halves = refl

range-halves : compress_range_of halves BlockLinearU16 6 ≡ value (up_to 0x3F80_0000)
unfolding of_bits lt place least greatest range_of compress_range_of
range-halves = refl

-- '(0, 2^−24): the second is 32,768 and comes back near 2^−25': as 2^−25 × (1 + 2^−16), pattern 33000080
pub compress-narrow : compress_bytes_of (float 0x0000_0000 ∷ float 0x3380_0000 ∷ []) BlockLinearU16 4 ≡ value (0x00 ∷ 0x00 ∷ 0x00 ∷ 0x80 ∷ [])
unfolding flat_map of_bits sub mul div lt place digits round_unsigned least greatest range_of clamped span_of quantize_radius_of linear_bytes compress_bytes_of
compress-narrow = refl

-- a half goes away from zero: 37000080 × 65,535 is 0.5, and its number is 1
compress-half : compress_bytes_of (float 0x0000_0000 ∷ float 0x3700_0080 ∷ float 0x3F80_0000 ∷ []) BlockLinearU16 6 ≡ value (0x00 ∷ 0x00 ∷ 0x01 ∷ 0x00 ∷ 0xFF ∷ 0xFF ∷ [])
unfolding flat_map of_bits sub mul div lt place digits round_unsigned least greatest range_of clamped span_of quantize_radius_of linear_bytes compress_bytes_of
compress-half = refl

-- '−0.0 is kept'
compress-minus-zero : compress_bytes_of (float 0x8000_0000 ∷ []) F32 4 ≡ value (0x00 ∷ 0x00 ∷ 0x00 ∷ 0x80 ∷ [])
unfolding flat_map of_bits to_bits lt place digits to_le_bytes compress_bytes_of
compress-minus-zero = refl

-- 'An equal value doesn't replace the earlier one'
range-zeros : compress_range_of (float 0x8000_0000 ∷ float 0x0000_0000 ∷ []) BlockLinearU16 4 ≡ value (between 0x8000_0000 0x8000_0000)
unfolding of_bits lt place least greatest range_of compress_range_of
range-zeros = refl

-- 'no radii give 0, 0'
range_none : compress_range_of [] BlockLinearU16 0 ≡ value (up_to 0x0000_0000)
unfolding of_bits place range_of compress_range_of
range_none = refl

-- 16 comes before 18 and 6
refused-radius : compress_bytes_of (float 0x0000_0000 ∷ float 0xBF80_0000 ∷ []) BlockLogU8 0 ≡ refused 16 1
unfolding of_bits lt place compress_bytes_of
refused-radius = refl

refused-log : compress_bytes_of [] BlockLogU8 7 ≡ refused 18 0
unfolding place compress_bytes_of
refused-log = refl

refused-room : compress_bytes_of halves BlockLinearU16 5 ≡ refused 6 6
unfolding of_bits lt place compress_bytes_of
refused-room = refl

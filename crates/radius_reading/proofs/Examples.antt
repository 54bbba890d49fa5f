-- Computed answers of decompress: a narrow range, hostile and negative ranges, minus zero and the order of refusals. Assumes nothing.
use Prim.Native.Nat.{◌^◌}
use mathlib.Core.Path.{◌≡◌, refl}
use mathlib.Core.Bool.{false}
use mathlib.Core.List.{[], ◌∷◌}
use lib.Ieee.{nan, inf, of_bits, add, sub, mul, div, lt, of_int}
use Rattle.error.specs.Answer.{value, refused, place}
use Rattle.digits.specs.Digits.{number}
use Rattle.float.specs.Bytes.{of_le_bytes}
use Rattle.lists.specs.Chunks.{chunks}
use Rattle.radius.specs.Linear.{radius_of, linear_radius}
use Rattle.radius.specs.Codec.{decompress_of}
use Rattle.radius.specs.declared.RadiusCodecProfileV1.TheVariants.{F32, BlockLinearU16}
use Rattle.radius.proofs.Examples.{float, up_to, between}

pub decompress-narrow : decompress_of BlockLinearU16 2 (up_to 0x3380_0000) (0x00 ∷ 0x00 ∷ 0x00 ∷ 0x80 ∷ []) 2 ≡ value (float 0x0000_0000 ∷ float 0x3300_0080 ∷ [])
unfolding of_bits add sub mul div lt of_int number chunks radius_of linear_radius decompress_of
decompress-narrow = refl

-- 'min 1.5 × 2^104, max the largest f32, value 65,535' reads as infinite
decompress-infinite : decompress_of BlockLinearU16 1 (between 0x73C0_0000 0x7F7F_FFFF) (0xFF ∷ 0xFF ∷ []) 1 ≡ value (inf false ∷ [])
unfolding of_bits add sub mul div lt of_int number chunks radius_of linear_radius decompress_of
decompress-infinite = refl

-- 'NaNs, from hostile ranges': a width that overflows, times 0
decompress-nan : decompress_of BlockLinearU16 1 (between 0xFF7F_FFFF 0x7F7F_FFFF) (0x00 ∷ 0x00 ∷ []) 1 ≡ value (nan ∷ [])
unfolding of_bits add sub mul div lt of_int number chunks radius_of linear_radius decompress_of
decompress-nan = refl

-- negative ranges pass: from −2 to −1, the greatest
decompress-negative : decompress_of BlockLinearU16 1 (between 0xC000_0000 0xBF80_0000) (0xFF ∷ 0xFF ∷ []) 1 ≡ value (float 0xBF80_0000 ∷ [])
unfolding of_bits add sub mul div lt of_int number chunks radius_of linear_radius decompress_of
decompress-negative = refl

decompress-minus-zero : decompress_of F32 1 (up_to 0x0000_0000) (0x00 ∷ 0x00 ∷ 0x00 ∷ 0x80 ∷ []) 1 ≡ value (float 0x8000_0000 ∷ [])
unfolding of_bits lt place number chunks of_le_bytes decompress_of
decompress-minus-zero = refl

-- 13 comes before 17
refused-length : decompress_of BlockLinearU16 1 (up_to 0x7FC0_0000) [] 1 ≡ refused 13 0
unfolding decompress_of
refused-length = refl

-- 'also where the length passes usize': four times 2^62 bytes are not none
refused-wrapped : decompress_of F32 (2 ^ 62) (up_to 0x0000_0000) [] 0 ≡ refused 13 0
unfolding decompress_of
refused-wrapped = refl

refused-range : decompress_of BlockLinearU16 1 (between 0x3F80_0000 0x0000_0000) (0x00 ∷ 0x00 ∷ []) 2 ≡ refused 17 0
unfolding of_bits lt decompress_of
refused-range = refl

refused-nan : decompress_of F32 1 (up_to 0x0000_0000) (0x00 ∷ 0x00 ∷ 0xC0 ∷ 0x7F ∷ []) 2 ≡ refused 16 0
unfolding of_bits lt place number chunks of_le_bytes decompress_of
refused-nan = refl

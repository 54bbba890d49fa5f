-- Each field of a record is told by the bytes that hold it. Document 01: 'Map byte, dimension u32, polar bits u8; if bit 0 stands, min and max as f32; if bit 1
-- stands, projections u32; .. All little-endian.' Document 02: 'Map bit 2 stands for an f32 norm after the projections'. Assumes nothing.
use Rattle.std.specs.Prelude.{ℕ, ◌+◌, ◌*◌, ◌/◌, ◌%◌, Bool, false, cond, List, eqb, get_or, take, drop, Float}
use Rattle.digits.specs.Digits.{number}
use Rattle.float.specs.Bytes.{of_le_bytes}
use Rattle.float.specs.Constants.{one}
use Rattle.radius.specs.Radii.{no_range}
use Rattle.radius.specs.declared.Range.{Range}
use Rattle.radius.specs.declared.RadiusCodecProfileV1.{RadiusCodecProfileV1}
use Rattle.radius.specs.declared.RadiusCodecProfileV1.TheVariants.{F32, BlockLinearU16}
use Rattle.setup.specs.declared.TurboMode.{TurboMode}
use Rattle.setup.specs.declared.TurboMode.TheVariants.{PolarOnly, PolarWithQjl}

-- ---- the map byte

abbrev pub map_of : List ℕ → ℕ
map_of bytes = get_or bytes 0 0

-- Bit 0 stands where the radii are linear, and then their range stands in the header.
abbrev pub range_bit : ℕ → ℕ
range_bit map = map % 2

-- Bit 1 stands where there are signs, and then their number stands in the header.
abbrev pub signs_bit : ℕ → ℕ
signs_bit map = map / 2 % 2

-- Bit 2 stands where the residual's norm stands in the header.
abbrev pub norm_bit : ℕ → ℕ
norm_bit map = map / 4 % 2

abbrev pub has_range : ℕ → Bool
has_range map = eqb (range_bit map) 1

abbrev pub has_signs : ℕ → Bool
has_signs map = eqb (signs_bit map) 1

abbrev pub has_norm : ℕ → Bool
has_norm map = eqb (norm_bit map) 1

-- This is the profile that the map byte tells: 'radii (linear if bit 0, else F32)'.
abbrev pub profile_of : ℕ → RadiusCodecProfileV1
profile_of map = cond (has_range map) BlockLinearU16 F32

-- This is the mode that the map byte tells: 'signs if bit 1'.
abbrev pub mode_of : ℕ → TurboMode
mode_of map = cond (has_signs map) PolarWithQjl PolarOnly

-- ---- the other fields

-- This is the u32 whose four bytes start at `at`.
abbrev pub word_at : List ℕ → ℕ → ℕ
word_at bytes at = number 256 (take 4 (drop at bytes))

-- This is the f32 whose four bytes start at `at`.
abbrev pub float_at : List ℕ → ℕ → Float
float_at bytes at = of_le_bytes (take 4 (drop at bytes))

abbrev pub dim_of : List ℕ → ℕ
dim_of bytes = word_at bytes 1

abbrev pub bits_of : List ℕ → ℕ
bits_of bytes = get_or bytes 5 0

-- This is the range; F32 radii have none, and 0, 0 stands for it.
unfoldable pub bounds_of : List ℕ → Range
bounds_of bytes = cond (has_range (map_of bytes)) (record { min = float_at bytes 6; max = float_at bytes 10 }) no_range

-- The projections start at this byte, behind the range if there is one.
abbrev pub projections_start : ℕ → ℕ
projections_start map = 6 + 8 * range_bit map

-- These are the projections; without signs they count as 0.
unfoldable pub projections_of : List ℕ → ℕ
projections_of bytes = cond (has_signs (map_of bytes)) (word_at bytes (projections_start (map_of bytes))) 0

-- The norm starts at this byte, behind the projections if there are some.
abbrev pub norm_start : ℕ → ℕ
norm_start map = projections_start map + 4 * signs_bit map

-- This is the norm; 'without it the norm is 1.0'.
unfoldable pub norm_of : List ℕ → Float
norm_of bytes = cond (has_norm (map_of bytes)) (float_at bytes (norm_start (map_of bytes))) (one false)

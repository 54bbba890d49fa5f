-- These say which ranges a record may not hold. Document 01: '17 if a bound is not finite, below zero, or min above max (−0.0 is zero)'. Assumes nothing.
use Rattle.std.specs.Prelude.{Bool, false, ◌||◌}
use Rattle.std.specs.Float.Ieee.{lt}
use Rattle.radius.specs.Radii.{bad_radius}
use Rattle.radius.specs.declared.Range.{Range}
use Rattle.radius.specs.declared.RadiusCodecProfileV1.{RadiusCodecProfileV1}
use Rattle.radius.specs.declared.RadiusCodecProfileV1.TheVariants.{F32, BlockLinearU16, BlockLogU8}

-- A bound is not finite or below zero, which a radius may not be either, or min is above max.
abbrev pub bad_bounds : Range → Bool
bad_bounds range = bad_radius range.min || bad_radius range.max || lt range.max range.min

-- The range of linear radii is judged; F32 radii have none.
abbrev pub bad_bounds_for : RadiusCodecProfileV1 → Range → Bool
bad_bounds_for F32 range = false
bad_bounds_for BlockLinearU16 range = bad_bounds range
bad_bounds_for BlockLogU8 range = false

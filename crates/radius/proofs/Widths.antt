-- How many bytes a radius takes: at most four, and none only in the profile that is refused. Assumes nothing.
use Prim.Native.Nat.{◌≤◌, ◌<◌}
use mathlib.Core.Path.{◌≡◌}
use mathlib.Core.Bool.{false, true≢false}
use native.Mathlib.Omega.{arith}
use Rattle.radius.specs.Codec.{bad_profile, width_of}
use Rattle.radius.specs.declared.RadiusCodecProfileV1.{RadiusCodecProfileV1}
use Rattle.radius.specs.declared.RadiusCodecProfileV1.TheVariants.{F32, BlockLinearU16, BlockLogU8}

pub width-most : (profile : RadiusCodecProfileV1) → width_of profile ≤ 4
width-most F32 = omega arith
width-most BlockLinearU16 = omega arith
width-most BlockLogU8 = omega arith

pub width-known : (profile : RadiusCodecProfileV1) → bad_profile profile ≡ false → 0 < width_of profile
width-known F32 e = omega arith
width-known BlockLinearU16 e = omega arith
width-known BlockLogU8 e = absurd (true≢false e)

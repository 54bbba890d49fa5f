-- What the map byte of given scalars tells: how long the header is, the profile, the mode and whether a norm is given. Assumes nothing.
use Prim.Native.Nat.{ℕ, ◌+◌, ◌≤◌}
use mathlib.Core.Path.{◌≡◌, refl, ap, ◌∙◌}
use mathlib.Core.Bool.{Bool, true, false, cond}
use native.Mathlib.Omega.{arith}
use Rattle.std.specs.Prelude.{Float, None, Option, Some}
use Rattle.radius.specs.Codec.{bad_profile}
use Rattle.radius.specs.declared.RadiusCodecProfileV1.{RadiusCodecProfileV1}
use Rattle.radius.specs.declared.RadiusCodecProfileV1.TheVariants.{F32, BlockLinearU16, BlockLogU8}
use Rattle.setup.specs.Setups.{by_mode}
use Rattle.setup.specs.declared.TurboMode.{TurboMode}
use Rattle.setup.specs.declared.TurboMode.TheVariants.{PolarOnly, PolarWithQjl}
use Rattle.packed.specs.Fields.{has_range, has_signs, has_norm, profile_of, mode_of}
use Rattle.packed.specs.Layout.{header_length}
use Rattle.packed_size.specs.Size.{by_profile, by_norm, is_given, map_for}

pub record MapTells (profile : RadiusCodecProfileV1) (mode : TurboMode) (norm : Option Float) : Type 0 where
  pub long : header_length (map_for profile mode norm) ≡ 6 + by_profile profile 0 8 + by_mode mode 0 4 + by_norm norm 0 (λ x. 4)
  pub linear : has_range (map_for profile mode norm) ≡ by_profile profile false true
  pub signs : has_signs (map_for profile mode norm) ≡ by_mode mode false true
  pub given : has_norm (map_for profile mode norm) ≡ is_given norm
  pub most : map_for profile mode norm ≤ 7

pub map-tells : (profile : RadiusCodecProfileV1) (mode : TurboMode) (norm : Option Float) → MapTells profile mode norm
map-tells F32 PolarOnly None = record { long = refl; linear = refl; signs = refl; given = refl; most = omega arith }
map-tells F32 PolarOnly (Some x) = record { long = refl; linear = refl; signs = refl; given = refl; most = omega arith }
map-tells F32 PolarWithQjl None = record { long = refl; linear = refl; signs = refl; given = refl; most = omega arith }
map-tells F32 PolarWithQjl (Some x) = record { long = refl; linear = refl; signs = refl; given = refl; most = omega arith }
map-tells BlockLinearU16 PolarOnly None = record { long = refl; linear = refl; signs = refl; given = refl; most = omega arith }
map-tells BlockLinearU16 PolarOnly (Some x) = record { long = refl; linear = refl; signs = refl; given = refl; most = omega arith }
map-tells BlockLinearU16 PolarWithQjl None = record { long = refl; linear = refl; signs = refl; given = refl; most = omega arith }
map-tells BlockLinearU16 PolarWithQjl (Some x) = record { long = refl; linear = refl; signs = refl; given = refl; most = omega arith }
map-tells BlockLogU8 PolarOnly None = record { long = refl; linear = refl; signs = refl; given = refl; most = omega arith }
map-tells BlockLogU8 PolarOnly (Some x) = record { long = refl; linear = refl; signs = refl; given = refl; most = omega arith }
map-tells BlockLogU8 PolarWithQjl None = record { long = refl; linear = refl; signs = refl; given = refl; most = omega arith }
map-tells BlockLogU8 PolarWithQjl (Some x) = record { long = refl; linear = refl; signs = refl; given = refl; most = omega arith }

of-signs : (mode : TurboMode) → cond (by_mode mode false true) PolarWithQjl PolarOnly ≡ mode
of-signs PolarOnly = refl
of-signs PolarWithQjl = refl

-- of the two profiles that a record has
of-linear : (profile : RadiusCodecProfileV1) → bad_profile profile ≡ false → cond (by_profile profile false true) BlockLinearU16 F32 ≡ profile
of-linear F32 e = refl
of-linear BlockLinearU16 e = refl
of-linear BlockLogU8 e = let z : ◌≡◌ {A = ℕ} 0 1 = cc in absurd (omega arith)

pub mode-back : (profile : RadiusCodecProfileV1) (mode : TurboMode) (norm : Option Float) → mode_of (map_for profile mode norm) ≡ mode
mode-back profile mode norm = ap (λ (t : Bool). cond t PolarWithQjl PolarOnly) (map-tells profile mode norm).signs ∙ of-signs mode

pub profile-back : (profile : RadiusCodecProfileV1) (mode : TurboMode) (norm : Option Float) → bad_profile profile ≡ false → profile_of (map_for profile mode norm) ≡ profile
profile-back profile mode norm e = ap (λ (t : Bool). cond t BlockLinearU16 F32) (map-tells profile mode norm).linear ∙ of-linear profile e

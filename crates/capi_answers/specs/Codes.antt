-- On the C side numbers stand for the cases of an enum, and structs are passed as their fields. Assumes nothing.
use Rattle.std.specs.Prelude.{ℕ, Bool, cond, eqb, Float, None, Option, Some}
use Rattle.packed.specs.declared.Code.{Code}
use Rattle.packed.specs.declared.Header.{Header}
use Rattle.radius.specs.declared.Range.{Range}
use Rattle.radius.specs.declared.RadiusCodecProfileV1.{RadiusCodecProfileV1}
use Rattle.radius.specs.declared.RadiusCodecProfileV1.TheVariants.{F32, BlockLinearU16, BlockLogU8}
use Rattle.setup.specs.declared.RotationKind.{RotationKind}
use Rattle.setup.specs.declared.RotationKind.TheVariants.{FastHadamard, Stored}
use Rattle.setup.specs.declared.Setup.{Setup}
use Rattle.setup.specs.declared.TurboMode.{TurboMode}
use Rattle.setup.specs.declared.TurboMode.TheVariants.{PolarOnly, PolarWithQjl}

-- The number 0 is `PolarOnly`, and every other number is `PolarWithQjl`.
unfoldable pub mode_from : ℕ → TurboMode
mode_from code = cond (eqb code 0) PolarOnly PolarWithQjl

-- The number 0 is `F32`, 1 is `BlockLinearU16`, and every other number is `BlockLogU8`, which is refused.
unfoldable pub profile_from : ℕ → RadiusCodecProfileV1
profile_from code = cond (eqb code 0) F32 (cond (eqb code 1) BlockLinearU16 BlockLogU8)

-- The number 0 is `FastHadamard`, and every other number is `Stored`.
unfoldable pub rotation_from : ℕ → RotationKind
rotation_from code = cond (eqb code 0) FastHadamard Stored

-- These are the scalars of a setup, with numbers for its mode and for which rotation it has.
abbrev pub setup_from : ℕ → ℕ → ℕ → ℕ → ℕ → Setup
setup_from mode dim bits projections kind = record { mode = mode_from mode; dim = dim; bits = bits; projections = projections; kind = rotation_from kind }

-- The number 0 is `None`, and every other number is `Some` with the norm beside it.
unfoldable pub norm_from : ℕ → Float → Option Float
norm_from code norm = cond (eqb code 0) None (Some norm)

-- These are the scalars of a record, with numbers for its profile and its mode, and for whether a norm is given.
abbrev pub code_from : ℕ → ℕ → ℕ → ℕ → ℕ → ℕ → Float → Code
code_from profile dim bits mode projections given norm =
    record { profile = profile_from profile; mode = mode_from mode; dim = dim; bits = bits; projections = projections; norm = norm_from given norm }

-- This is a range of two floats.
abbrev pub range_from : Float → Float → Range
range_from lo hi = record { min = lo; max = hi }

-- These two are the bounds of a range.
abbrev pub min_of : Range → Float
min_of range = range.min

abbrev pub max_of : Range → Float
max_of range = range.max

-- ---- a record's header, as the numbers that leave

-- This is the number of a mode.
abbrev pub mode_number : TurboMode → ℕ
mode_number PolarOnly = 0
mode_number PolarWithQjl = 1

-- This is the number of a profile.
abbrev pub profile_number : RadiusCodecProfileV1 → ℕ
profile_number F32 = 0
profile_number BlockLinearU16 = 1
profile_number BlockLogU8 = 2

-- This number says whether a norm stood.
abbrev pub norm_number : Bool → ℕ
norm_number stood = cond stood 1 0

abbrev pub header_mode : Header → ℕ
header_mode header = mode_number header.mode

abbrev pub header_profile : Header → ℕ
header_profile header = profile_number header.profile

abbrev pub header_dim : Header → ℕ
header_dim header = header.dim

abbrev pub header_bits : Header → ℕ
header_bits header = header.bits

abbrev pub header_projections : Header → ℕ
header_projections header = header.projections

abbrev pub header_min : Header → Float
header_min header = header.range.min

abbrev pub header_max : Header → Float
header_max header = header.range.max

abbrev pub header_has_norm : Header → ℕ
header_has_norm header = norm_number header.has_norm

abbrev pub header_norm : Header → Float
header_norm header = header.norm

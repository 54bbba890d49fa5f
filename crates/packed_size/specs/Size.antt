-- These are the map byte of a record, its length, and the checks of the scalars that it is written with. Document 01: 'Writing a record, F32 or linear: 18 for
-- BlockLogU8, 2, 3, 4, 1 (16 is refused beside signs), 8, ..'. Document 02: 'Writing stores a norm exactly when one is given, and answers 18 at place 0 if it comes
-- without signs'. Assumes nothing.
use Rattle.std.specs.Prelude.{ℕ, ◌+◌, ◌*◌, ◌/◌, Bool, true, false, List, [], ◌∷◌, ◌++◌, Float, None, Option, Some}
use Rattle.error.specs.Answer.{Answer, value, Check, check, first}
use Rattle.bitpack.specs.Padding.{bytes_for}
use Rattle.float.specs.Constants.{one}
use Rattle.radius.specs.Codec.{wrong_profile, width_of}
use Rattle.radius.specs.declared.RadiusCodecProfileV1.{RadiusCodecProfileV1}
use Rattle.radius.specs.declared.RadiusCodecProfileV1.TheVariants.{F32, BlockLinearU16, BlockLogU8}
use Rattle.setup.specs.Checks.{wrong_projections}
use Rattle.setup.specs.Setups.{by_mode, counted}
use Rattle.setup.specs.declared.TurboMode.{TurboMode}
use Rattle.packed.specs.Layout.{header_length}
use Rattle.packed.specs.Reading.{shape_checks}
use Rattle.packed.specs.declared.Code.{Code}

-- The second of the two is for linear radii, and the first for all others; BlockLogU8, which is refused, counts as F32 here.
abbrev pub by_profile : {A : Type 0} → RadiusCodecProfileV1 → A → A → A
by_profile F32 plain linear = plain
by_profile BlockLinearU16 plain linear = linear
by_profile BlockLogU8 plain linear = plain

-- The second of the two is for a norm that is given, made of it, and the first for one that is absent.
abbrev pub by_norm : {A : Type 0} → Option Float → A → (Float → A) → A
by_norm None none some = none
by_norm (Some norm) none some = some norm

-- The norm is given.
abbrev pub is_given : Option Float → Bool
is_given norm = by_norm norm false (λ x. true)

-- This is the norm; 'without it the norm is 1.0'.
abbrev pub norm_value : Option Float → Float
norm_value norm = by_norm norm (one false) (λ x. x)

-- The map byte has bit 0 for linear radii, bit 1 for signs and bit 2 for a norm that is given.
abbrev pub map_for : RadiusCodecProfileV1 → TurboMode → Option Float → ℕ
map_for profile mode norm = by_profile profile 0 1 + by_mode mode 0 2 + by_norm norm 0 (λ x. 4)

-- A record takes this many bytes: the header, a radius and an index for each pair, and a sign for each projection that counts.
abbrev pub needed_for : Code → ℕ
needed_for code =
    header_length (map_for code.profile code.mode code.norm)
    + width_of code.profile * (code.dim / 2)
    + bytes_for (code.dim / 2 * code.bits)
    + bytes_for (counted code.mode code.projections)

-- A norm is given without signs.
abbrev pub bad_norm_alone : TurboMode → Option Float → Bool
bad_norm_alone mode norm = by_mode mode (is_given norm) false

-- These are the writer's checks of the scalars: '18 for BlockLogU8', 18 for a norm without signs, '2, 3, 4, 1 (16 is refused beside signs), 8'.
abbrev pub code_checks : Code → List Check
code_checks code =
    wrong_profile code.profile
    ∷ check (bad_norm_alone code.mode code.norm) 18 0
    ∷ shape_checks code.mode code.dim code.bits
    ++ (wrong_projections code.mode code.projections ∷ [])

-- This is the length of a record of these scalars; what the writer refuses of them is refused here, but for the value of the norm.
unfoldable pub record_size_of : Code → Answer ℕ
record_size_of code = first (code_checks code) (value (needed_for code))

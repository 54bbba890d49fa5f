-- This is the writer: the bytes of a record, and its checks in document 01's order. 'Writing a record, F32 or linear: 18 for BlockLogU8, 2, 3, 4, 1 (16 is refused
-- beside signs), 8, 5 for radii, indices and signs, 16 for bad radii, 16 for radii that would read as infinite, 15, 10.' Document 02: 'Writing stores a norm exactly
-- when one is given', and '23 when the norm is not finite or below zero, checked .. in writing before 16'. Assumes nothing.
use Rattle.std.specs.Prelude.{ℕ, ◌*◌, ◌/◌, ◌^◌, List, [], ◌∷◌, ◌++◌, ℤ, length, Float, Option}
use Rattle.error.specs.Checks.{wrong_room, wrong_input, bad_index}
use Rattle.error.specs.Answer.{Answer, value, Check, first, each}
use Rattle.digits.specs.Digits.{digits}
use Rattle.float.specs.Bytes.{to_le_bytes}
use Rattle.bitpack.specs.Packing.{index_bytes}
use Rattle.bitpack.specs.Signs.{sign_bytes, bad_sketch_sign}
use Rattle.radius.specs.Codec.{range_for, payload_for}
use Rattle.radius.specs.Firsts.{read_back}
use Rattle.radius.specs.Radii.{bad_radius, wrong_norm}
use Rattle.radius.specs.declared.Range.{Range}
use Rattle.radius.specs.declared.RadiusCodecProfileV1.{RadiusCodecProfileV1}
use Rattle.setup.specs.declared.TurboMode.{TurboMode}
use Rattle.setup.specs.Setups.{by_mode, counted}
use Rattle.packed.specs.declared.Code.{Code}
use Rattle.packed_size.specs.Size.{by_profile, by_norm, norm_value, map_for, needed_for, code_checks}

-- ---- the bytes

-- These are the bytes of the range: 'if bit 0 stands, min and max as f32'.
abbrev pub range_bytes : RadiusCodecProfileV1 → Range → List ℕ
range_bytes profile range = by_profile profile [] (to_le_bytes range.min ++ to_le_bytes range.max)

-- These are the bytes of the projections: 'if bit 1 stands, projections u32'.
abbrev pub projection_bytes : TurboMode → ℕ → List ℕ
projection_bytes mode m = by_mode mode [] (digits 256 4 m)

-- These are the bytes of the norm: 'an f32 norm after the projections', 'exactly when one is given'.
abbrev pub norm_bytes : Option Float → List ℕ
norm_bytes norm = by_norm norm [] to_le_bytes

-- 'Map byte, dimension u32, polar bits u8', then come range, projections and norm where they stand.
unfoldable pub header_bytes : Code → Range → List ℕ
header_bytes code range =
    map_for code.profile code.mode code.norm
    ∷ digits 256 4 code.dim
    ++ (code.bits ∷ [])
    ++ range_bytes code.profile range
    ++ projection_bytes code.mode code.projections
    ++ norm_bytes code.norm

-- The header is followed by the payloads: 'then radii (linear if bit 0, else F32), indices, and signs if bit 1'.
unfoldable pub record_of : Code → List Float → List ℕ → List ℤ → List ℕ
record_of code radii indices signs =
    header_bytes code (range_for code.profile radii)
    ++ (payload_for code.profile radii
    ++ (index_bytes code.bits indices
    ++ sign_bytes signs))

-- ---- the checks

-- '5 for radii, indices and signs': of each the length is given here, and a radius and an index are needed for each pair, and m signs.
abbrev pub length_checks : ℕ → ℕ → ℕ → ℕ → ℕ → List Check
length_checks pairs m manyRadii manyIndices manySigns = wrong_input manyRadii pairs ∷ wrong_input manyIndices pairs ∷ wrong_input manySigns m ∷ []

-- '18 for BlockLogU8', 18 for a norm without signs, '2, 3, 4, 1 (16 is refused beside signs), 8, 5 for radii, indices and signs', of which the lengths are given
-- here.
abbrev pub field_checks : Code → ℕ → ℕ → ℕ → List Check
field_checks code manyRadii manyIndices manySigns =
    code_checks code ++ length_checks (code.dim / 2) (counted code.mode code.projections) manyRadii manyIndices manySigns

-- These are the checks of indices and signs: '15, 10'.
abbrev pub item_checks : ℕ → List ℕ → List ℤ → List Check
item_checks bits indices signs = each (bad_index bits) 15 indices ∷ each bad_sketch_sign 10 signs ∷ []

-- These are the checks of all values: 23 for the norm, '16 for bad radii, 16 for radii that would read as infinite, 15, 10'.
abbrev pub value_checks : RadiusCodecProfileV1 → ℕ → Option Float → List Float → List ℕ → List ℤ → List Check
value_checks profile bits norm radii indices signs =
    wrong_norm (norm_value norm)
    ∷ each bad_radius 16 radii
    ∷ each bad_radius 16 (read_back profile radii)
    ∷ item_checks bits indices signs

-- This is what `write_record` answers. 'In every call 6 comes after all input checks.' `room` is the output's length.
unfoldable pub write_record_of : Code → List Float → List ℕ → List ℤ → ℕ → Answer (List ℕ)
write_record_of code radii indices signs room =
    first
    (field_checks code (length radii) (length indices) (length signs)
    ++ value_checks code.profile code.bits code.norm radii indices signs
    ++ (wrong_room room (needed_for code) ∷ []))
    (value (record_of code radii indices signs))

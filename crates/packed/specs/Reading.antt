-- This is the reader: its checks in document 01's order, its answer, and the values that an accepted record holds. 'Reading checks, in order: under six bytes 13;
-- 18; 2; 3; 4; 1 (16 is refused beside bit 1); header cut short 13; 8; total length 13; 17 ..; 16; 14 for indices; 14 for signs.' Before them stands document 02's
-- request b): 'A record of no bytes now means a withdrawn position. Reading it answers withdrawn'. Its request c) adds '23 when the norm is not finite or below zero,
-- checked after 17', and its request h) leaves 4 'to records above 4,096'. Assumes nothing.
use Rattle.std.specs.Prelude.{ℕ, Bool, cond, not, ◌||◌, ◌&&◌, List, [], ◌∷◌, ◌++◌, map, ltb, eqb, ℤ, length, Float}
use Rattle.error.specs.Answer.{Answer, value, refused, withdrawn, Check, check, first, each}
use Rattle.bitpack.specs.Padding.{wrong_padding}
use Rattle.error.specs.Checks.{differs, wrong_room}
use Rattle.bitpack.specs.Packing.{indices_in}
use Rattle.bitpack.specs.Signs.{signs_in}
use Rattle.radius.specs.Codec.{radii_for}
use Rattle.radius.specs.Radii.{bad_radius, wrong_norm}
use Rattle.rotation.specs.Checks.{wrong_zero_dimension, wrong_odd_dimension}
use Rattle.setup.specs.declared.TurboMode.{TurboMode}
use Rattle.setup.specs.Checks.{wrong_projections}
use Rattle.setup.specs.Setups.{by_mode}
use Rattle.packed.specs.Fields.{map_of, has_signs, has_norm, profile_of, mode_of, dim_of, bits_of, bounds_of, projections_of, norm_of}
use Rattle.packed.specs.Layout.{header_length, pairs_of, indices_used, record_length, radii_bytes, indices_bytes, signs_bytes, header_of}
use Rattle.packed.specs.Radii.{bad_bounds_for}
use Rattle.packed.specs.declared.Header.{Header}

-- ---- a withdrawn position

-- 'A record of no bytes now means a withdrawn position.'
abbrev pub is_withdrawn : List ℕ → Bool
is_withdrawn bytes = eqb (length bytes) 0

-- Withdrawn is answered where the record has no bytes; where it has some, the answer stands. Checks that come before are written in front of this, and those that
-- come after within it.
abbrev pub unless_withdrawn : {A : Type 0} → List ℕ → Answer A → Answer A
unless_withdrawn bytes a = cond (is_withdrawn bytes) withdrawn a

-- ---- the values as read

-- These are the radii as read. A linear one is min + (max − min) × (v / 65,535), each step rounded, with v its 16 bits.
unfoldable pub radii_of : List ℕ → List Float
radii_of bytes = radii_for (profile_of (map_of bytes)) (pairs_of bytes) (bounds_of bytes) (radii_bytes bytes)

unfoldable pub indices_of : List ℕ → List ℕ
indices_of bytes = indices_in (bits_of bytes) (pairs_of bytes) (indices_bytes bytes)

unfoldable pub signs_of : List ℕ → List ℤ
signs_of bytes = signs_in (projections_of bytes) (signs_bytes bytes)

-- ---- the checks

-- '13: byte length wrong. Place: the length found.' In a record this is the whole record's length.
abbrev pub wrong_size : Bool → List ℕ → Check
wrong_size bad bytes = check bad 13 (length bytes)

-- 'a map bit not defined': a bit other than 0, 1 and 2 stands. Document 02 of bit 2: 'it may stand only beside bit 1, else 18'.
abbrev pub bad_map : ℕ → Bool
bad_map map = ltb 7 map || (has_norm map && not (has_signs map))

-- '18: .. Place: the map byte'.
abbrev pub wrong_map : List ℕ → Check
wrong_map bytes = check (bad_map (map_of bytes)) 18 (map_of bytes)

-- 'bits outside 1..16', '16 is refused beside bit 1'.
abbrev pub bad_polar_bits : TurboMode → ℕ → Bool
bad_polar_bits mode bits = ltb bits 1 || ltb (by_mode mode 16 15) bits

-- Document 02, request h): 'A record may now have any even dimension to 4,096; 4 is left .. to records above 4,096.' This is the record's own rule, in reading and in
-- writing.
abbrev pub bad_record_dimension : ℕ → Bool
bad_record_dimension dim = ltb 4096 dim

-- '4: .. Place: the dimension.'
abbrev pub wrong_record_dimension : ℕ → Check
wrong_record_dimension dim = check (bad_record_dimension dim) 4 dim

-- '2; 3; 4; 1': these are the checks of a dimension and of polar bits, in reading and in writing.
abbrev pub shape_checks : TurboMode → ℕ → ℕ → List Check
shape_checks mode dim bits = wrong_zero_dimension dim ∷ wrong_odd_dimension dim ∷ wrong_record_dimension dim ∷ check (bad_polar_bits mode bits) 1 bits ∷ []

-- These are the checks of the header's length, of its map byte and of its fields but the range and the norm.
abbrev pub header_checks : List ℕ → List Check
header_checks bytes =
    wrong_size (ltb (length bytes) 6) bytes
    ∷ wrong_map bytes
    ∷ shape_checks (mode_of (map_of bytes)) (dim_of bytes) (bits_of bytes)
    ++ (wrong_size (ltb (length bytes) (header_length (map_of bytes))) bytes
    ∷ wrong_projections (mode_of (map_of bytes)) (projections_of bytes)
    ∷ [])

-- '14 for indices; 14 for signs'. The place is a byte's index in its payload.
abbrev pub padding_checks : List ℕ → List Check
padding_checks bytes = wrong_padding (indices_bytes bytes) (indices_used bytes) ∷ wrong_padding (signs_bytes bytes) (projections_of bytes) ∷ []

-- These are the checks of the whole length, the range, the norm and the payloads. '16: a radius is NaN, infinite or below zero' is asked of a radius as it is read:
-- 'A linear radius that reads as infinite is 16'.
abbrev pub payload_checks : List ℕ → List Check
payload_checks bytes =
    wrong_size (differs (length bytes) (record_length bytes)) bytes
    ∷ check (bad_bounds_for (profile_of (map_of bytes)) (bounds_of bytes)) 17 0
    ∷ wrong_norm (norm_of bytes)
    ∷ each bad_radius 16 (radii_of bytes)
    ∷ padding_checks bytes

abbrev pub record_checks : List ℕ → List Check
record_checks bytes = header_checks bytes ++ payload_checks bytes

-- This is what `read_record` answers. 'Lengths 1 to 5 still answer 13.'
unfoldable pub read_record_of : List ℕ → Answer Header
read_record_of bytes = unless_withdrawn bytes (first (record_checks bytes) (value (header_of bytes)))

-- ---- 'The reader hands back each payload as a part of the record's own bytes.'

-- 'For a refused record .. the part is empty', and for a withdrawn one.
abbrev pub part_where : Answer Header → List ℕ → List ℕ
part_where (value header) part = part
part_where (refused n p) part = []
part_where withdrawn part = []

unfoldable pub radii_part_of : List ℕ → List ℕ
radii_part_of bytes = part_where (read_record_of bytes) (radii_bytes bytes)

unfoldable pub indices_part_of : List ℕ → List ℕ
indices_part_of bytes = part_where (read_record_of bytes) (indices_bytes bytes)

-- '.. or for signs that aren't there, the part is empty': no projections take no byte.
unfoldable pub signs_part_of : List ℕ → List ℕ
signs_part_of bytes = part_where (read_record_of bytes) (signs_bytes bytes)

-- ---- the values in lent memory: withdrawn, the reader's refusals, then 6

-- `needed` is how many values there are, and `room` is the output's length.
abbrev pub fill_of : {A : Type 0} → List ℕ → ℕ → ℕ → A → Answer A
fill_of bytes needed room x = unless_withdrawn bytes (first (record_checks bytes ++ (wrong_room room needed ∷ [])) (value x))

unfoldable pub read_radii_of : List ℕ → ℕ → Answer (List Float)
read_radii_of bytes room = fill_of bytes (pairs_of bytes) room (radii_of bytes)

unfoldable pub read_indices_of : List ℕ → ℕ → Answer (List ℕ)
read_indices_of bytes room = fill_of bytes (pairs_of bytes) room (indices_of bytes)

unfoldable pub read_signs_of : List ℕ → ℕ → Answer (List ℤ)
read_signs_of bytes room = fill_of bytes (projections_of bytes) room (signs_of bytes)

-- Request c) of document 02 moves what is answered of records with a norm, and nothing else. The checks, the header's length and the bytes stand here as document 01
-- has them, with what requests b) and h) moved: b)'s withdrawn stands before them, and 4 is h)'s. A record whose map byte has no bit 2, and one that is written without
-- a norm, are answered by these. Assumes nothing.
use Rattle.std.specs.Prelude.{ℕ, ◌+◌, ◌*◌, ◌/◌, ◌≡◌, false, List, [], ◌∷◌, ◌++◌, ltb, ℤ, length, Float, None}
use Rattle.digits.specs.Digits.{digits}
use Rattle.error.specs.Answer.{Answer, value, Check, check, first, each}
use Rattle.error.specs.Checks.{differs, wrong_room}
use Rattle.float.specs.Constants.{one}
use Rattle.bitpack.specs.Padding.{bytes_for}
use Rattle.bitpack.specs.Packing.{index_bytes}
use Rattle.bitpack.specs.Signs.{sign_bytes}
use Rattle.radius.specs.Codec.{wrong_profile, width_of, range_for, payload_for}
use Rattle.radius.specs.Firsts.{read_back}
use Rattle.radius.specs.Radii.{bad_radius}
use Rattle.radius.specs.declared.RadiusCodecProfileV1.{RadiusCodecProfileV1}
use Rattle.setup.specs.Checks.{wrong_projections}
use Rattle.setup.specs.Setups.{by_mode, counted}
use Rattle.setup.specs.declared.TurboMode.{TurboMode}
use Rattle.packed.specs.declared.Code.{Code}
use Rattle.packed.specs.Fields.{map_of, range_bit, signs_bit, has_norm, profile_of, mode_of, dim_of, bits_of, bounds_of, projections_of, norm_of}
use Rattle.packed.specs.Layout.{radii_start, radii_length, indices_length, signs_length, header_of}
use Rattle.packed.specs.Radii.{bad_bounds_for}
use Rattle.packed.specs.Reading.{wrong_size, shape_checks, padding_checks, unless_withdrawn, radii_of, record_checks, read_record_of}
use Rattle.packed_size.specs.Size.{by_profile, record_size_of}
use Rattle.packed_writing.specs.Writing.{range_bytes, projection_bytes, length_checks, item_checks, write_record_of}

-- ---- reading

-- This is the header's length with bits 0 and 1 alone, and the record's length behind it.
abbrev pub former_header_length : ℕ → ℕ
former_header_length map = 6 + 8 * range_bit map + 4 * signs_bit map

abbrev pub former_record_length : List ℕ → ℕ
former_record_length bytes = former_header_length (map_of bytes) + radii_length bytes + indices_length bytes + signs_length bytes

-- 'Reading checks, in order: under six bytes 13; 18; 2; 3; 4; 1 (16 is refused beside bit 1); header cut short 13; 8; total length 13; 17 ..; 16; 14 for indices; 14
-- for signs.' 18 stands for every map byte above 3.
abbrev pub former_record_checks : List ℕ → List Check
former_record_checks bytes =
    wrong_size (ltb (length bytes) 6) bytes
    ∷ check (ltb 3 (map_of bytes)) 18 (map_of bytes)
    ∷ shape_checks (mode_of (map_of bytes)) (dim_of bytes) (bits_of bytes)
    ++ (wrong_size (ltb (length bytes) (former_header_length (map_of bytes))) bytes
    ∷ wrong_projections (mode_of (map_of bytes)) (projections_of bytes)
    ∷ wrong_size (differs (length bytes) (former_record_length bytes)) bytes
    ∷ check (bad_bounds_for (profile_of (map_of bytes)) (bounds_of bytes)) 17 0
    ∷ each bad_radius 16 (radii_of bytes)
    ∷ padding_checks bytes)

-- ---- writing

abbrev pub former_map_for : RadiusCodecProfileV1 → TurboMode → ℕ
former_map_for profile mode = by_profile profile 0 1 + by_mode mode 0 2

abbrev pub former_needed_for : Code → ℕ
former_needed_for code =
    former_header_length (former_map_for code.profile code.mode)
    + width_of code.profile * (code.dim / 2)
    + bytes_for (code.dim / 2 * code.bits)
    + bytes_for (counted code.mode code.projections)

-- '18 for BlockLogU8, 2, 3, 4, 1 (16 is refused beside signs), 8'.
abbrev pub former_code_checks : Code → List Check
former_code_checks code = wrong_profile code.profile ∷ shape_checks code.mode code.dim code.bits ++ (wrong_projections code.mode code.projections ∷ [])

-- '.. 5 for radii, indices and signs, 16 for bad radii, 16 for radii that would read as infinite, 15, 10.' Then comes 6.
abbrev pub former_write_checks : Code → List Float → List ℕ → List ℤ → ℕ → List Check
former_write_checks code radii indices signs room =
    former_code_checks code
    ++ length_checks (code.dim / 2) (counted code.mode code.projections) (length radii) (length indices) (length signs)
    ++ (each bad_radius 16 radii ∷ each bad_radius 16 (read_back code.profile radii) ∷ item_checks code.bits indices signs)
    ++ (wrong_room room (former_needed_for code) ∷ [])

-- 'Map byte, dimension u32, polar bits u8; if bit 0 stands, min and max as f32; if bit 1 stands, projections u32; then radii (linear if bit 0, else F32), indices,
-- and signs if bit 1.'
abbrev pub former_record_of : Code → List Float → List ℕ → List ℤ → List ℕ
former_record_of code radii indices signs =
    (former_map_for code.profile code.mode
    ∷ digits 256 4 code.dim
    ++ (code.bits ∷ [])
    ++ range_bytes code.profile (range_for code.profile radii)
    ++ projection_bytes code.mode code.projections)
    ++ (payload_for code.profile radii
    ++ (index_bytes code.bits indices
    ++ sign_bytes signs))

-- ---- the claim

pub record WithoutNorm : Type 1 where
  -- Where bit 2 does not stand, the checks are these, whatever is answered behind them, the payloads start behind document 01's header, and the norm is 1.0.
  pub read_kept : (bytes : List ℕ) → has_norm (map_of bytes) ≡ false → read_record_of bytes ≡ unless_withdrawn bytes (first (former_record_checks bytes) (value (header_of bytes)))
  pub checks_kept : {A : Type 0} (bytes : List ℕ) (a : Answer A) → has_norm (map_of bytes) ≡ false → first (record_checks bytes) a ≡ first (former_record_checks bytes) a
  pub start_kept : (bytes : List ℕ) → has_norm (map_of bytes) ≡ false → radii_start bytes ≡ former_header_length (map_of bytes)
  pub norm_one : (bytes : List ℕ) → has_norm (map_of bytes) ≡ false → norm_of bytes ≡ one false
  -- Where no norm is given, a record has document 01's length and bytes, and these checks.
  pub size_kept : (code : Code) → code.norm ≡ None → record_size_of code ≡ first (former_code_checks code) (value (former_needed_for code))
  pub write_kept : (code : Code) (radii : List Float) (indices : List ℕ) (signs : List ℤ) (room : ℕ) → code.norm ≡ None
      → write_record_of code radii indices signs room ≡ first (former_write_checks code radii indices signs room) (value (former_record_of code radii indices signs))

-- These are the promises of acceptance and of a record's round trips: the header that inputs are written with, the fields that come back, and what a linear record
-- keeps. Document 01: 'Writing a record, F32 or linear'; 'In `PolarOnly` m counts as 0'. Assumes nothing.
use Rattle.std.specs.Prelude.{ℕ, ◌+◌, ◌*◌, ◌/◌, ◌≡◌, true, false, cond, List, ℤ, length, T, Float, None, Option, Some}
use Rattle.std.specs.Float.{binary32}
use Rattle.std.specs.Float.Ieee.{fits}
use Rattle.digits.specs.Digits.{AreBytes}
use Rattle.float.specs.Bytes.{AreFloats}
use Rattle.error.specs.Answer.{value}
use Rattle.bitpack.specs.Padding.{bytes_for}
use Rattle.radius.specs.Codec.{width_of, range_for}
use Rattle.radius.specs.Radii.{range_of}
use Rattle.radius.specs.declared.RadiusCodecProfileV1.{RadiusCodecProfileV1}
use Rattle.radius.specs.declared.RadiusCodecProfileV1.TheVariants.{F32, BlockLinearU16}
use Rattle.packed.specs.declared.Code.{Code}
use Rattle.packed.specs.declared.Header.{Header}
use Rattle.packed.specs.Fields.{map_of, norm_bit, has_range, has_norm, profile_of, mode_of, dim_of, bits_of, bounds_of, projections_of, norm_start, norm_of}
use Rattle.packed.specs.Layout.{header_length, part_at, indices_bytes, signs_bytes, header_of}
use Rattle.packed.specs.Reading.{radii_of, indices_of, signs_of, read_record_of}
use Rattle.packed.specs.Accepted.{Accepted}
use Rattle.packed_size.specs.Size.{is_given, norm_value, map_for, needed_for}
use Rattle.packed_writing.specs.Writing.{write_record_of}
use Rattle.setup.specs.Setups.{counted}
use Rattle.radius.specs.Firsts.{read_back}

-- This is the norm as a record's bytes tell it: given exactly where one stands.
abbrev pub norm_as : List ℕ → Option Float
norm_as bytes = cond (has_norm (map_of bytes)) (Some (norm_of bytes)) None

-- These are the scalars that a record's bytes tell, under a given profile.
abbrev pub code_as : RadiusCodecProfileV1 → List ℕ → Code
code_as profile bytes =
    record { profile = profile; mode = mode_of (map_of bytes); dim = dim_of bytes; bits = bits_of bytes; projections = projections_of bytes; norm = norm_as bytes }

-- These are the bytes of a record's norm; there are none where none stands.
abbrev pub norm_part : List ℕ → List ℕ
norm_part bytes = part_at bytes (norm_start (map_of bytes)) (4 * norm_bit (map_of bytes))

-- This is the header that a record is written with, by value.
unfoldable pub header_for : Code → List Float → Header
header_for code radii = record {
  mode = code.mode;
  profile = code.profile;
  dim = code.dim;
  bits = code.bits;
  projections = counted code.mode code.projections;
  range = range_for code.profile radii;
  has_norm = is_given code.norm;
  norm = norm_value code.norm;
  radii_start = header_length (map_for code.profile code.mode code.norm);
  indices_start = header_length (map_for code.profile code.mode code.norm) + width_of code.profile * (code.dim / 2);
  signs_start = header_length (map_for code.profile code.mode code.norm) + width_of code.profile * (code.dim / 2) + bytes_for (code.dim / 2 * code.bits);
  end = needed_for code;
}

-- The fields of the bytes are those that were given; `room` is the output's length.
pub record SameFields (bytes : List ℕ) (code : Code) (radii : List Float) (room : ℕ) : Type 0 where
  pub map_same : map_of bytes ≡ map_for code.profile code.mode code.norm
  pub mode_same : mode_of (map_of bytes) ≡ code.mode
  pub profile_same : profile_of (map_of bytes) ≡ code.profile
  pub dim_same : dim_of bytes ≡ code.dim
  pub bits_same : bits_of bytes ≡ code.bits
  pub projections_same : projections_of bytes ≡ counted code.mode code.projections
  -- This is the range of linear radii; F32 radii have none, and 0, 0 stands for it.
  pub range_same : bounds_of bytes ≡ range_for code.profile radii
  -- A norm stands exactly where one was given, and it is that one; else it is 1.0.
  pub given_same : has_norm (map_of bytes) ≡ is_given code.norm
  pub norm_same : norm_of bytes ≡ norm_value code.norm
  pub length_same : length bytes ≡ room

-- A linear record that is taken apart and written again as `again` keeps this.
pub record SameButRadii (bytes again : List ℕ) : Type 0 where
  pub map_same : map_of again ≡ map_of bytes
  pub dim_same : dim_of again ≡ dim_of bytes
  pub bits_same : bits_of again ≡ bits_of bytes
  pub projections_same : projections_of again ≡ projections_of bytes
  pub norm_same : norm_of again ≡ norm_of bytes
  pub norm_bytes_same : norm_part again ≡ norm_part bytes
  pub length_same : length again ≡ length bytes
  pub indices_same : indices_bytes again ≡ indices_bytes bytes
  pub signs_same : signs_bytes again ≡ signs_bytes bytes
  -- The range is that of the radii as read, and they are read again as the writer says.
  pub range_read : bounds_of again ≡ range_of (radii_of bytes)
  pub radii_read : radii_of again ≡ read_back BlockLinearU16 (radii_of bytes)

-- This comes back from bytes that were written: indices, signs and F32 radii, and linear radii as they are read.
pub record ComesBack (code : Code) (radii : List Float) (indices : List ℕ) (signs : List ℤ) (room : ℕ) (bytes : List ℕ) : Type 0 where
  -- A writer never writes a record that its reader refuses, and the header says what was given.
  pub header_back : read_record_of bytes ≡ value (header_for code radii)
  pub fields_back : SameFields bytes code radii room
  pub indices_back : indices_of bytes ≡ indices
  pub signs_back : signs_of bytes ≡ signs
  -- F32 radii come back to the last bit; linear radii come back as the writer says that they will be read.
  pub floats_back : code.profile ≡ F32 → radii_of bytes ≡ radii
  pub radii_back : radii_of bytes ≡ read_back code.profile radii

-- Acceptance and the round trips stand here as one claim. Of what is given only this is asked: a byte is below 256, and a radius and the norm are f32.
pub record RoundTrips : Type 0 where
  -- The listed conditions are the sole ones.
  pub accepted_reads : (bytes : List ℕ) → Accepted bytes → read_record_of bytes ≡ value (header_of bytes)
  pub read_accepts : (bytes : List ℕ) (header : Header) → read_record_of bytes ≡ value header → Accepted bytes
  -- What was written comes back.
  pub written : (code : Code) (radii : List Float) (indices : List ℕ) (signs : List ℤ) (room : ℕ) (bytes : List ℕ)
      → AreFloats radii → T (fits binary32 (norm_value code.norm))
      → write_record_of code radii indices signs room ≡ value bytes → ComesBack code radii indices signs room bytes
  -- Bytes come back from what they hold: an accepted F32 record, taken apart and written again, gives the same bytes.
  pub rewritten : (bytes : List ℕ) (header : Header) → AreBytes bytes → read_record_of bytes ≡ value header
      → has_range (map_of bytes) ≡ false → write_record_of (code_as F32 bytes) (radii_of bytes) (indices_of bytes) (signs_of bytes) (length bytes) ≡ value bytes
  -- Of a linear record, where it is written again at all, everything comes back but the range and the radii's bytes.
  pub rewritten_linear : (bytes : List ℕ) (header : Header) (room : ℕ) (again : List ℕ) → AreBytes bytes → read_record_of bytes ≡ value header
      → has_range (map_of bytes) ≡ true → write_record_of (code_as BlockLinearU16 bytes) (radii_of bytes) (indices_of bytes) (signs_of bytes) room ≡ value again
      → SameButRadii bytes again

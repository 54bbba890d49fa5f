-- These say where the parts of a record stand, and how long they are; the header's length is computed from the map byte. Document 01: '.. then radii (linear if bit
-- 0, else F32), indices, and signs if bit 1.' 'The length is count × b / 8, rounded up.' Assumes nothing.
use Rattle.std.specs.Prelude.{ℕ, ◌+◌, ◌*◌, ◌/◌, List, take, drop}
use Rattle.bitpack.specs.Padding.{bytes_for}
use Rattle.radius.specs.Codec.{width_of}
use Rattle.packed.specs.Fields.{map_of, range_bit, signs_bit, norm_bit, has_norm, profile_of, mode_of, dim_of, bits_of, bounds_of, projections_of, norm_of}
use Rattle.packed.specs.declared.Header.{Header}

-- Every header has six bytes, eight more of the range if bit 0 stands, four more of the projections if bit 1 stands, and four more of the norm if bit 2 stands; no
-- other bit counts.
abbrev pub header_length : ℕ → ℕ
header_length map = 6 + 8 * range_bit map + 4 * signs_bit map + 4 * norm_bit map

-- This is how many pairs of coordinates there are; each has a radius and an index.
abbrev pub pairs_of : List ℕ → ℕ
pairs_of bytes = dim_of bytes / 2

-- ---- the three payloads: where each starts, and how long it is

abbrev pub radii_start : List ℕ → ℕ
radii_start bytes = header_length (map_of bytes)

abbrev pub radii_length : List ℕ → ℕ
radii_length bytes = width_of (profile_of (map_of bytes)) * pairs_of bytes

abbrev pub indices_start : List ℕ → ℕ
indices_start bytes = radii_start bytes + radii_length bytes

-- This many bits of the indices' payload are used.
abbrev pub indices_used : List ℕ → ℕ
indices_used bytes = pairs_of bytes * bits_of bytes

abbrev pub indices_length : List ℕ → ℕ
indices_length bytes = bytes_for (indices_used bytes)

abbrev pub signs_start : List ℕ → ℕ
signs_start bytes = indices_start bytes + indices_length bytes

abbrev pub signs_length : List ℕ → ℕ
signs_length bytes = bytes_for (projections_of bytes)

-- This is the whole record's length.
abbrev pub record_length : List ℕ → ℕ
record_length bytes = signs_start bytes + signs_length bytes

-- These are `long` bytes from `at` on.
abbrev pub part_at : List ℕ → ℕ → ℕ → List ℕ
part_at bytes at long = take long (drop at bytes)

unfoldable pub radii_bytes : List ℕ → List ℕ
radii_bytes bytes = part_at bytes (radii_start bytes) (radii_length bytes)

unfoldable pub indices_bytes : List ℕ → List ℕ
indices_bytes bytes = part_at bytes (indices_start bytes) (indices_length bytes)

unfoldable pub signs_bytes : List ℕ → List ℕ
signs_bytes bytes = part_at bytes (signs_start bytes) (signs_length bytes)

-- This is all of the header, by value.
unfoldable pub header_of : List ℕ → Header
header_of bytes = record {
  mode = mode_of (map_of bytes);
  profile = profile_of (map_of bytes);
  dim = dim_of bytes;
  bits = bits_of bytes;
  projections = projections_of bytes;
  range = bounds_of bytes;
  has_norm = has_norm (map_of bytes);
  norm = norm_of bytes;
  radii_start = radii_start bytes;
  indices_start = indices_start bytes;
  signs_start = signs_start bytes;
  end = record_length bytes;
}

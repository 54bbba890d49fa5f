-- A record is accepted where each of the documents' conditions on reading holds, and no other is asked. Each quotation names what is refused, and the field below it
-- says that this is not so. Assumes nothing.
use Rattle.std.specs.Prelude.{ℕ, ◌%◌, ◌≤◌, ◌<◌, ◌≡◌, true, false, List, length, get_or}
use Rattle.std.specs.Float.{nan}
use Rattle.bitpack.specs.Padding.{bad_padding}
use Rattle.radius.specs.Radii.{bad_radius}
use Rattle.packed.specs.Fields.{map_of, has_range, has_signs, has_norm, dim_of, bits_of, bounds_of, projections_of, norm_of}
use Rattle.packed.specs.Layout.{header_length, indices_used, record_length, indices_bytes, signs_bytes}
use Rattle.packed.specs.Radii.{bad_bounds}
use Rattle.packed.specs.Reading.{radii_of}

pub record Accepted (bytes : List ℕ) : Type 0 where
  -- 'under six bytes 13'.
  pub long : 6 ≤ length bytes
  -- '18: a map bit not defined': no bit stands but 0, 1 and 2; of bit 2 'it may stand only beside bit 1'.
  pub map : map_of bytes ≤ 7
  pub norm_beside : has_norm (map_of bytes) ≡ true → has_signs (map_of bytes) ≡ true
  -- '2: dimension 0'.
  pub above : 0 < dim_of bytes
  -- '3: odd dimension'.
  pub even : dim_of bytes % 2 ≡ 0
  -- Document 02, request h): '4 is left .. to records above 4,096'; no other even dimension is refused.
  pub most : dim_of bytes ≤ 4096
  -- '1: bits outside 1..16', '16 is refused beside bit 1'.
  pub least_bits : 1 ≤ bits_of bytes
  pub most_bits : bits_of bytes ≤ 16
  pub residual_bits : has_signs (map_of bytes) ≡ true → bits_of bytes ≤ 15
  -- 'header cut short 13'.
  pub header : header_length (map_of bytes) ≤ length bytes
  -- '8: in residual mode, projections 0 or above 4,096'.
  pub projections : has_signs (map_of bytes) ≡ true → (0 < projections_of bytes) × (projections_of bytes ≤ 4096)
  -- 'total length 13'.
  pub total : length bytes ≡ record_length bytes
  -- '17 if a bound is not finite, below zero, or min above max (−0.0 is zero)'.
  pub bounds : has_range (map_of bytes) ≡ true → bad_bounds (bounds_of bytes) ≡ false
  -- '23 when the norm is not finite or below zero'; without one it is 1.0, which is neither.
  pub norm : bad_radius (norm_of bytes) ≡ false
  -- '16: a radius is NaN, infinite or below zero', as it is read.
  pub radii : (i : ℕ) → i < length (radii_of bytes) → bad_radius (get_or (radii_of bytes) i nan) ≡ false
  -- '14 for indices; 14 for signs'.
  pub indices : bad_padding (indices_bytes bytes) (indices_used bytes) ≡ false
  pub signs : bad_padding (signs_bytes bytes) (projections_of bytes) ≡ false

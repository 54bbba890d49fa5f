-- The payloads as parts of the record's own bytes, by the places that the header gives. Assumes nothing.
use Prim.Native.Nat.{ℕ, ◌+◌, ◌*◌, ◌-◌, ◌/◌, ◌≤◌}
use mathlib.Core.Path.{◌≡◌, ap, ◌∙◌}
use mathlib.Core.List.{List}
use native.Mathlib.Omega.{arith}
use lib.ListN.{length, take, drop, length-drop}
use lib.Seq.{length-take-le}
use Rattle.error.specs.Answer.{place}
use Rattle.radius.specs.Codec.{width_of, radii_for}
use Rattle.radius.specs.Radii.{bad_radius}
use Rattle.packed.specs.Fields.{map_of, profile_of, bounds_of, projections_of, norm_of}
use Rattle.packed.specs.Radii.{bad_bounds_for}
use Rattle.packed.specs.Reading.{radii_of}
use Rattle.packed.specs.Layout.{pairs_of, indices_used, radii_start, radii_length, indices_start, indices_length, signs_start, signs_length, record_length, part_at, radii_bytes, indices_bytes, signs_bytes, header_of}
use Rattle.packed.specs.declared.Header.{Header}

-- from a place to the end of a part that starts there
part-between : (bytes : List ℕ) (at long : ℕ) → take (at + long - at) (drop at bytes) ≡ part_at bytes at long
part-between bytes at long = let e : at + long - at ≡ long = omega arith in ap (λ (n : ℕ). take n (drop at bytes)) e

pub length_part : (bytes : List ℕ) (at long : ℕ) → at + long ≤ length bytes → length (part_at bytes at long) ≡ long
length_part bytes at long h = length-take-le long (drop at bytes) (rw length-drop (omega arith))

-- ---- by the header's places

module _ (bytes : List ℕ) {header : Header} (is : header ≡ header_of bytes) where
  pub radii_part : take (header.indices_start - header.radii_start) (drop header.radii_start bytes) ≡ radii_bytes bytes
  unfolding header_of radii_bytes
  radii_part = ap (λ (h : Header). take (h.indices_start - h.radii_start) (drop h.radii_start bytes)) is ∙ part-between bytes (radii_start bytes) (radii_length bytes)

  pub indices_part : take (header.signs_start - header.indices_start) (drop header.indices_start bytes) ≡ indices_bytes bytes
  unfolding header_of indices_bytes
  indices_part = ap (λ (h : Header). take (h.signs_start - h.indices_start) (drop h.indices_start bytes)) is ∙ part-between bytes (indices_start bytes) (indices_length bytes)

  pub signs_part : take (header.end - header.signs_start) (drop header.signs_start bytes) ≡ signs_bytes bytes
  unfolding header_of signs_bytes
  signs_part = ap (λ (h : Header). take (h.end - h.signs_start) (drop h.signs_start bytes)) is ∙ part-between bytes (signs_start bytes) (signs_length bytes)

-- the header's places, in their order
pub record Ordered (header : Header) (total : ℕ) : Type 0 where
  pub first : header.radii_start ≤ header.indices_start
  pub second : header.indices_start ≤ header.signs_start
  pub third : header.signs_start ≤ header.end
  pub last : header.end ≡ total

pub ordered : (bytes : List ℕ) {header : Header} → header ≡ header_of bytes → Ordered header (record_length bytes)
unfolding header_of
ordered bytes is = rw is (record { first = omega arith; second = omega arith; third = omega arith; last = omega arith })

-- ---- lengths, in a record of the right length

module _ (bytes : List ℕ) (sized : length bytes ≡ record_length bytes) where
  pub length-radii : length (radii_bytes bytes) ≡ radii_length bytes
  unfolding radii_bytes
  length-radii = length_part bytes (radii_start bytes) (radii_length bytes) (omega (arith, sized))

  pub length-indices : length (indices_bytes bytes) ≡ indices_length bytes
  unfolding indices_bytes
  length-indices = length_part bytes (indices_start bytes) (indices_length bytes) (omega (arith, sized))

  pub length-signs : length (signs_bytes bytes) ≡ signs_length bytes
  unfolding signs_bytes
  length-signs = length_part bytes (signs_start bytes) (signs_length bytes) (omega (arith, sized))

-- ---- what the header says, in the record's terms

module _ (bytes : List ℕ) {header : Header} (is : header ≡ header_of bytes) where
  pub header-pairs : header.dim / 2 ≡ pairs_of bytes
  unfolding header_of
  header-pairs = ap (λ (h : Header). h.dim / 2) is

  pub header-used : header.dim / 2 * header.bits ≡ indices_used bytes
  unfolding header_of
  header-used = ap (λ (h : Header). h.dim / 2 * h.bits) is

  pub header_projections_lem : header.projections ≡ projections_of bytes
  unfolding header_of
  header_projections_lem = ap (λ (h : Header). h.projections) is

  pub header-bounds : bad_bounds_for header.profile header.range ≡ bad_bounds_for (profile_of (map_of bytes)) (bounds_of bytes)
  unfolding header_of
  header-bounds = ap (λ (h : Header). bad_bounds_for h.profile h.range) is

  pub header_norm_lem : header.norm ≡ norm_of bytes
  unfolding header_of
  header_norm_lem = ap (λ (h : Header). h.norm) is

  pub header-width : width_of header.profile * (header.dim / 2) ≡ radii_length bytes
  unfolding header_of
  header-width = ap (λ (h : Header). width_of h.profile * (h.dim / 2)) is

  pub header-radii : (payload : List ℕ) → payload ≡ radii_bytes bytes → place bad_radius (radii_for header.profile (header.dim / 2) header.range payload) ≡ place bad_radius (radii_of bytes)
  unfolding header_of radii_of
  header-radii payload e =
      ap (λ (h : Header). place bad_radius (radii_for h.profile (h.dim / 2) h.range payload)) is
      ∙ ap (λ (l : List ℕ). place bad_radius (radii_for (profile_of (map_of bytes)) (pairs_of bytes) (bounds_of bytes) l)) e

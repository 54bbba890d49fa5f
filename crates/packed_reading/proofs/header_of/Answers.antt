-- `packed_reading::header_of` meets its contract: a header that passes its checks has small fields, so no sum wraps. Assumes nothing.
use Prim.Native.Nat.{ℕ, ◌*◌, ◌/◌, ◌≤◌}
use mathlib.Core.Path.{◌≡◌, ◌∙◌}
use native.Mathlib.Omega.{arith}
use lib.ListN.{get_or}
use Rattle.error.specs.Answer.{accepted}
use Rattle.bitpack.proofs.Lengths.{div_ceil-bytes_for}
use Rattle.packed.specs.Fields.{dim_of}
use Rattle.packed.specs.Layout.{header_of}
use Rattle.packed.proofs.Headers.{word-run, header-usable, bits_most, projections-most, product-most}
use Rattle.radius.proofs.Widths.{width-most}
use Rattle.packed_reading.proofs.header_of.Goals.{After-get_u32-dim, After-width_of}
use Rattle.packed_reading.proofs.header_of.Goals as goal

-- the dimension that is read is the record's
dim-read : (c : goal.After-get_u32-dim) → c.get_u32-dim.result ≡ dim_of c.args.bytes.now
dim-read c =
    let bytes = c.args.bytes.now in
    c.get_u32-dim.ensures ∙ word-run bytes 1 (omega (arith, (header-usable bytes accepted c.requires).long))

-- the sizes that the sums are made of
pub record Sizes (head width dim bits m : ℕ) : Type 0 where
  pub head-most : head ≤ 22
  pub radii_most : width * (dim / 2) ≤ 8192
  pub indices_most : dim / 2 * bits ≤ 32768
  pub projections-most : m ≤ 4096

sizes : (c : goal.After-width_of) → let a = c.args in
    Sizes c.header_length-radii.result c.width_of.result c.get_u32-dim.result (get_or a.bytes.now 5 0) c.projections_of-projections.result
sizes c =
    let u = header-usable c.args.bytes.now accepted c.requires in
    let d = c.get_u32-dim.ensures ∙ word-run c.args.bytes.now 1 (omega (arith, u.long)) in
    let w = width-most c.profile_of-profile.result in
    let b = bits_most _ u in
    let m = projections-most _ u in
    let width = c.width_of.ensures in
    let half : c.get_u32-dim.result / 2 ≤ 2048 = omega (arith, d, u.most) in
    record {
      head-most = omega (arith, c.header_length-radii.ensures);
      radii_most = product-most c.width_of.result _ 4 2048 (omega (arith, width, w)) half;
      indices_most = product-most _ (get_or c.args.bytes.now 5 0) 2048 16 half b;
      projections-most = omega (arith, c.projections_of-projections.ensures, m);
    }

pub bounds-bytes-0 : goal.bounds-bytes-0
bounds-bytes-0 c = omega (arith, (header-usable c.args.bytes.now accepted c.requires).long)

pub get_u32-dim-requires : goal.get_u32-dim-requires
get_u32-dim-requires c = omega (arith, (header-usable c.args.bytes.now accepted c.requires).long)

pub bounds-bytes-5 : goal.bounds-bytes-5
bounds-bytes-5 c = omega (arith, (header-usable c.args.bytes.now accepted c.requires).long)

pub projections_of-projections-requires : goal.projections_of-projections-requires
projections_of-projections-requires c = let u = header-usable c.args.bytes.now accepted c.requires in (u.long, u.header)

pub overflow_mul-indices : goal.overflow_mul-indices
overflow_mul-indices c = let z = sizes (goal.at.overflow_mul-indices c).After-width_of in omega (arith, z.head-most, z.radii_most, z.indices_most, z.projections-most)

pub overflow_add-indices : goal.overflow_add-indices
overflow_add-indices c = let z = sizes (goal.at.overflow_add-indices c).After-width_of in omega (arith, z.head-most, z.radii_most, z.indices_most, z.projections-most)

pub overflow_cast-bits : goal.overflow_cast-bits
overflow_cast-bits c = omega (arith, c.type_inv.bytes 5)

pub overflow_mul-dim : goal.overflow_mul-dim
overflow_mul-dim c = let z = sizes (goal.at.overflow_mul-dim c).After-width_of in omega (arith, z.head-most, z.radii_most, z.indices_most, z.projections-most)

pub overflow_add-signs : goal.overflow_add-signs
overflow_add-signs c = let z = sizes (goal.at.overflow_add-signs c).After-width_of in omega (arith, z.head-most, z.radii_most, z.indices_most, z.projections-most)

pub overflow_add-end : goal.overflow_add-end
overflow_add-end c = let z = sizes (goal.at.overflow_add-end c).After-width_of in omega (arith, z.head-most, z.radii_most, z.indices_most, z.projections-most)

pub bounds_of-range-requires : goal.bounds_of-range-requires
bounds_of-range-requires c = let u = header-usable c.args.bytes.now accepted c.requires in (u.long, u.header)

pub norm_of-norm-requires : goal.norm_of-norm-requires
norm_of-norm-requires c = let u = header-usable c.args.bytes.now accepted c.requires in (u.long, u.header)

pub returns : goal.returns
unfolding header_of
returns c = simp (c.div_ceil.ensures, c.div_ceil-2.ensures, div_ceil-bytes_for, c.norm_of-norm.ensures, c.norm_stands-has_norm.ensures, c.bounds_of-range.ensures, c.mode_of-mode.ensures, c.width_of.ensures, c.header_length-radii.ensures, c.profile_of-profile.ensures, c.projections_of-projections.ensures, dim-read (goal.at.returns c).After-get_u32-dim)

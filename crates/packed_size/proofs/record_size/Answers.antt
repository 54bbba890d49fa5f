-- `packed_size::record_size` meets its contract: the scalars pass, so every product and sum fits. Assumes nothing.
use Prim.Native.Nat.{ℕ, ◌*◌, ◌/◌, ◌≤◌}
use mathlib.Core.Path.{◌≡◌, sym, ap, ◌∙◌}
use native.Mathlib.Omega.{arith}
use Rattle.error.specs.Answer.{value, first, accepted}
use Rattle.error.specs.Outcomes.{says}
use Rattle.error.proofs.Chains.{first-refused, first-passed}
use Rattle.bitpack.proofs.Lengths.{div_ceil-bytes_for}
use Rattle.radius.proofs.Widths.{width-most}
use Rattle.packed.proofs.Headers.{product-most}
use Rattle.packed_size.specs.Size.{needed_for, code_checks, record_size_of}
use Rattle.packed_size.proofs.Scalars.{code-small}
use Rattle.error.proofs.Passed.{passed_on}
use Rattle.packed_size.proofs.record_size.Goals.{After-width_of, In_ok-check_code}
use Rattle.packed_size.proofs.record_size.Goals as goal

passed : (c : goal.In_ok-check_code) → first (code_checks c.args.code) accepted ≡ accepted
passed c = sym c.check_code.ensures ∙ ap says c.in_ok-check_code.was

-- the sizes that the sums are made of
record Sizes (head width pairs bits signs : ℕ) : Type 0 where
  head-most : head ≤ 22
  radii_most : width * pairs ≤ 8192
  indices_most : pairs * bits ≤ 32768
  signs_most : signs ≤ 4096

sizes : (c : goal.After-width_of) → let code = c.args.code in Sizes c.header_length-head.result c.width_of.result (code.dim / 2) code.bits c.counted_in-signs.result
sizes c =
    let code = c.args.code in
    let z = code-small code (sym c.check_code.ensures ∙ ap says c.in_ok-check_code.was) in
    let w = width-most code.profile in
    record {
      head-most = omega (arith, c.header_length-head.ensures);
      radii_most = product-most c.width_of.result (code.dim / 2) 4 2048 (omega (arith, w, c.width_of.ensures)) (omega (arith, z.dim_most));
      indices_most = product-most (code.dim / 2) code.bits 2048 16 (omega (arith, z.dim_most)) z.bits_most;
      signs_most = omega (arith, z.signs_most, c.counted_in-signs.ensures);
    }

pub returns-in_err-check_code : goal.returns-in_err-check_code
unfolding record_size_of
returns-in_err-check_code c = rw (passed_on c.from_residual.result c.from_residual.ensures.1) (sym (first-refused (code_checks c.args.code) (value (needed_for c.args.code)) (sym c.in_err-check_code.ensures)))

pub overflow_mul-body : goal.overflow_mul-body
overflow_mul-body c = let z = sizes (goal.at.overflow_mul-body c).After-width_of in omega (arith, z.head-most, z.radii_most, z.indices_most, z.signs_most)

pub overflow_mul-dim : goal.overflow_mul-dim
overflow_mul-dim c = let z = sizes (goal.at.overflow_mul-dim c).After-width_of in omega (arith, z.head-most, z.radii_most, z.indices_most, z.signs_most)

pub overflow_add-total : goal.overflow_add-total
overflow_add-total c = let z = sizes (goal.at.overflow_add-total c).After-width_of in omega (arith, z.head-most, z.radii_most, z.indices_most, z.signs_most)

pub overflow_add-total-2 : goal.overflow_add-total-2
overflow_add-total-2 c = let z = sizes (goal.at.overflow_add-total-2 c).After-width_of in omega (arith, z.head-most, z.radii_most, z.indices_most, z.signs_most)

pub overflow_add-total-3 : goal.overflow_add-total-3
overflow_add-total-3 c = let z = sizes (goal.at.overflow_add-total-3 c).After-width_of in omega (arith, z.head-most, z.radii_most, z.indices_most, z.signs_most)

pub returns : goal.returns
unfolding record_size_of
returns c = let code = c.args.code in
    simp (c.div_ceil-codes.ensures, c.div_ceil-marks.ensures, div_ceil-bytes_for, c.header_length-head.ensures, c.map_for.ensures, c.width_of.ensures, c.counted_in-signs.ensures)
    (sym (first-passed (code_checks code) (value (needed_for code)) (passed (goal.at.returns c).In_ok-check_code)))

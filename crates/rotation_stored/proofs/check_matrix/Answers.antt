-- `rotation_stored::check_matrix` answers the first check of a dimension and of its matrix that fails, in document 02's order. Assumes nothing.
use Prim.Native.Nat.{◌*◌, ◌≤◌}
use mathlib.Core.Path.{refl, sym, ◌∙◌}
use native.Mathlib.Nat.{mul-le-mul_right}
use native.Mathlib.Omega.{arith}
use borrow.Author.Tests.{eq-eqb, ne_eqb, ltb-false}
use Rattle.error.proofs.Places.{each-offends, each-passes, is_found, is_none}
use Rattle.error.specs.Checks.{bad_value}
use Rattle.rotation_stored.proofs.check_matrix.Goals as goal

pub returns-then-dim-eq0 : goal.returns-then-dim-eq0
returns-then-dim-eq0 c = simp (eq-eqb _ _ c.if-dim-eq0.true)

pub returns-then-dim-eq1 : goal.returns-then-dim-eq1
returns-then-dim-eq1 c = simp (ne_eqb _ _ c.if-dim-eq0.false, eq-eqb _ _ c.if-dim-eq1.true)

pub returns-then-outside_stored : goal.returns-then-outside_stored
returns-then-outside_stored c = simp (ne_eqb _ _ c.if-dim-eq0.false, ne_eqb _ _ c.if-dim-eq1.false, sym c.outside_stored.ensures ∙ c.if-outside_stored.true)

pub overflow_mul-dim : goal.overflow_mul-dim
overflow_mul-dim c = let n = c.args.dim in
    let small : n ≤ 512 = ltb-false 512 n (sym c.outside_stored.ensures ∙ c.if-outside_stored.false) in
    let square : n * n ≤ 512 * n = mul-le-mul_right n small in
    record { fits = omega (arith, square, small) }

pub returns-then-matrix-dim : goal.returns-then-matrix-dim
returns-then-matrix-dim c = simp (ne_eqb _ _ c.if-dim-eq0.false, ne_eqb _ _ c.if-dim-eq1.false, sym c.outside_stored.ensures ∙ c.if-outside_stored.false, ne_eqb _ _ c.if-matrix-dim.true)

pub returns-in-Some : goal.returns-in-Some
returns-in-Some c = simp (ne_eqb _ _ c.if-dim-eq0.false, ne_eqb _ _ c.if-dim-eq1.false, sym c.outside_stored.ensures ∙ c.if-outside_stored.false, eq-eqb _ _ c.if-matrix-dim.false, each-offends bad_value _ (is_found c.first_non_finite.ensures c.in-Some.is).0 (is_found c.first_non_finite.ensures c.in-Some.is).1, (is_found c.first_non_finite.ensures c.in-Some.is).0)

pub returns : goal.returns
returns c = simp (ne_eqb _ _ c.if-dim-eq0.false, ne_eqb _ _ c.if-dim-eq1.false, sym c.outside_stored.ensures ∙ c.if-outside_stored.false, eq-eqb _ _ c.if-matrix-dim.false, each-passes bad_value _ refl (is_none c.first_non_finite.ensures c.in_default.is))

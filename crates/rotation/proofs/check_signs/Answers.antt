-- `rotation::check_signs` answers the first check of a dimension and of its signs that fails, in document 01's order. Assumes nothing.
use mathlib.Core.Path.{refl, sym, ◌∙◌}
use borrow.Author.Tests.{eq-eqb, ne_eqb}
use Rattle.error.proofs.Places.{each-offends, each-passes, is_found, is_none}
use Rattle.rotation.specs.Checks.{bad_sign}
use Rattle.rotation.proofs.check_signs.Goals as goal

pub returns-then-dim-eq0 : goal.returns-then-dim-eq0
returns-then-dim-eq0 c = simp (eq-eqb _ _ c.if-dim-eq0.true)

pub returns-then-dim-eq1 : goal.returns-then-dim-eq1
returns-then-dim-eq1 c = simp (ne_eqb _ _ c.if-dim-eq0.false, eq-eqb _ _ c.if-dim-eq1.true)

pub returns-then-outside_powers : goal.returns-then-outside_powers
returns-then-outside_powers c = simp (ne_eqb _ _ c.if-dim-eq0.false, ne_eqb _ _ c.if-dim-eq1.false, sym c.outside_powers.ensures ∙ c.if-outside_powers.true)

pub returns-then-signs-dim : goal.returns-then-signs-dim
returns-then-signs-dim c = simp (ne_eqb _ _ c.if-dim-eq0.false, ne_eqb _ _ c.if-dim-eq1.false, sym c.outside_powers.ensures ∙ c.if-outside_powers.false, ne_eqb _ _ c.if-signs-dim.true)

pub returns-in-Some : goal.returns-in-Some
returns-in-Some c = simp (ne_eqb _ _ c.if-dim-eq0.false, ne_eqb _ _ c.if-dim-eq1.false, sym c.outside_powers.ensures ∙ c.if-outside_powers.false, eq-eqb _ _ c.if-signs-dim.false, each-offends bad_sign _ (is_found c.first_bad_sign.ensures c.in-Some.is).0 (is_found c.first_bad_sign.ensures c.in-Some.is).1, (is_found c.first_bad_sign.ensures c.in-Some.is).0)

pub returns : goal.returns
returns c = simp (ne_eqb _ _ c.if-dim-eq0.false, ne_eqb _ _ c.if-dim-eq1.false, sym c.outside_powers.ensures ∙ c.if-outside_powers.false, eq-eqb _ _ c.if-signs-dim.false, each-passes bad_sign _ refl (is_none c.first_bad_sign.ensures c.in_default.is))

-- `packed::check_shape` meets its contract: a check that passes leaves the rest of the list. Assumes nothing.
use mathlib.Core.Path.{sym, ◌∙◌}
use borrow.Author.Tests.{eq-eqb, ne_eqb}
use Rattle.packed.proofs.check_shape.Goals as goal

pub returns-then-dim-eq0 : goal.returns-then-dim-eq0
returns-then-dim-eq0 c = simp (eq-eqb _ _ c.if-dim-eq0.true)

pub returns-then-dim-eq1 : goal.returns-then-dim-eq1
returns-then-dim-eq1 c = simp (ne_eqb _ _ c.if-dim-eq0.false, eq-eqb _ _ c.if-dim-eq1.true)

pub returns-then-outside_dimension : goal.returns-then-outside_dimension
returns-then-outside_dimension c = simp (ne_eqb _ _ c.if-dim-eq0.false, ne_eqb _ _ c.if-dim-eq1.false, sym c.outside_dimension.ensures ∙ c.if-outside_dimension.true)

pub returns-then-outside_bits : goal.returns-then-outside_bits
returns-then-outside_bits c = simp (ne_eqb _ _ c.if-dim-eq0.false, ne_eqb _ _ c.if-dim-eq1.false, sym c.outside_dimension.ensures ∙ c.if-outside_dimension.false, sym c.outside_bits.ensures ∙ c.if-outside_bits.true)

pub returns : goal.returns
returns c = simp (ne_eqb _ _ c.if-dim-eq0.false, ne_eqb _ _ c.if-dim-eq1.false, sym c.outside_dimension.ensures ∙ c.if-outside_dimension.false, sym c.outside_bits.ensures ∙ c.if-outside_bits.false)

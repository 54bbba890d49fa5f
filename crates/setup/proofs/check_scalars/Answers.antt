-- `setup::check_scalars` meets its contract: a check that passes leaves the rest of the list. Assumes nothing.
use Rattle.std.proofs.Common.{sym, ◌∙◌, eq-eqb, ne_eqb}
use Rattle.setup.proofs.Steps.{stops, goes_on}
use Rattle.setup.proofs.check_scalars.Goals as goal

pub returns-then-dim-eq0 : goal.returns-then-dim-eq0
returns-then-dim-eq0 c = stops _ _ _ (eq-eqb _ _ c.if-dim-eq0.true)

pub returns-then-dim-eq1 : goal.returns-then-dim-eq1
returns-then-dim-eq1 c = goes_on _ _ _ (ne_eqb _ _ c.if-dim-eq0.false) (stops _ _ _ (eq-eqb _ _ c.if-dim-eq1.true))

pub returns-then-outside_bits : goal.returns-then-outside_bits
returns-then-outside_bits c = goes_on _ _ _ (ne_eqb _ _ c.if-dim-eq0.false) (goes_on _ _ _ (ne_eqb _ _ c.if-dim-eq1.false) (stops _ _ _ (sym c.outside_bits.ensures ∙ c.if-outside_bits.true)))

pub returns-then-outside_projections : goal.returns-then-outside_projections
returns-then-outside_projections c = goes_on _ _ _ (ne_eqb _ _ c.if-dim-eq0.false) (goes_on _ _ _ (ne_eqb _ _ c.if-dim-eq1.false) (goes_on _ _ _ (sym c.outside_bits.ensures ∙ c.if-outside_bits.false) (stops _ _ _ (sym c.outside_projections.ensures ∙ c.if-outside_projections.true))))

pub returns : goal.returns
returns c = goes_on _ _ _ (ne_eqb _ _ c.if-dim-eq0.false) (goes_on _ _ _ (ne_eqb _ _ c.if-dim-eq1.false) (goes_on _ _ _ (sym c.outside_bits.ensures ∙ c.if-outside_bits.false) (goes_on _ _ _ (sym c.outside_projections.ensures ∙ c.if-outside_projections.false) c.check_rotation_dimension.ensures)))

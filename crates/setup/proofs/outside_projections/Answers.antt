-- `setup::outside_projections` meets its contract. Assumes nothing.
use Rattle.std.proofs.Common.{eq-eqb, ne_eqb}
use Rattle.setup.proofs.outside_projections.Goals as goal

pub returns-then-projections-eq0 : goal.returns-then-projections-eq0
returns-then-projections-eq0 c = simp (c.in-PolarWithQjl.is, eq-eqb _ _ c.if-projections-eq0.true)

pub returns-else-projections-eq0 : goal.returns-else-projections-eq0
returns-else-projections-eq0 c = simp (c.in-PolarWithQjl.is, ne_eqb _ _ c.if-projections-eq0.false)

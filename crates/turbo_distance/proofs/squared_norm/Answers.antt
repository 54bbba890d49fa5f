-- `turbo_distance::squared_norm` meets its contract: the loop keeps the norm as the running sum and what is left of the list. Assumes nothing.
use Rattle.std.proofs.Common.{◌∙◌}
use Rattle.turbo_distance.proofs.Norms.{norm-more, norm-end}
use Rattle.turbo_distance.proofs.squared_norm.Goals as goal

pub loop-x-preserved : goal.loop-x-preserved
loop-x-preserved c = c.loop-x.invariant ∙ norm-more c.args.values.now c.loop-x.x-index c.loop-x.sum c.loop-x-test.true

pub returns : goal.returns
returns c = norm-end _ _ _ c.loop-x-test.false c.loop-x.invariant

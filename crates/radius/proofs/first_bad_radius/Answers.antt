-- `radius::first_bad_radius` meets its contract: where the pass finds nothing, there is none, and else the position is that of the first that offends. Assumes nothing.
use Rattle.std.proofs.Common.{rules}
use Rattle.error.proofs.Places.{found-position}
use Rattle.error.proofs.Sweep.{clear-found}
use Rattle.radius.specs.Radii.{bad_radius}
use Rattle.radius.proofs.first_bad_radius.Goals as goal

pub returns-then-all_good : goal.returns-then-all_good
returns-then-all_good c = clear-found bad_radius _ (c.all_good.ensures c.if-all_good.true)

pub returns : goal.returns
returns c = found-position bad_radius _ _ _ c.position.ensures.ran c.iter.ensures.rest (λ x q k. search rules) (λ x q k. search rules)

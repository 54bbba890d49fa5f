-- `radius::all_good` meets its contract: a turn keeps `Flagged`. Assumes nothing.
use Rattle.radius.proofs.Passes.{Flagged}
use Rattle.radius.proofs.all_good.Given as goal

abbrev pub invariant-loop-radius : goal.invariant-loop-radius
invariant-loop-radius l = Flagged (λ r. r) l.radii l.radius-index l.above l.below

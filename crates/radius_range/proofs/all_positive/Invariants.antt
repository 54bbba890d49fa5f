-- `radius_range::all_positive` meets its contract, by the laws of `Sweep`. Assumes nothing.
use Rattle.error.proofs.Sweep.{Swept}
use Rattle.radius_range.specs.Inner.{not_positive}
use Rattle.radius_range.proofs.all_positive.Given as goal

abbrev pub invariant-loop-radius : goal.invariant-loop-radius
invariant-loop-radius l = Swept not_positive l.radii l.radius-index l.ok

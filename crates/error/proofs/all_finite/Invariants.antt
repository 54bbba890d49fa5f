-- `error::all_finite` meets its contract, by the laws of `Sweep`. Assumes nothing.
use Rattle.error.specs.Checks.{bad_value}
use Rattle.error.proofs.Sweep.{Swept}
use Rattle.error.proofs.all_finite.Given as goal

abbrev pub invariant-loop-x : goal.invariant-loop-x
invariant-loop-x l = Swept bad_value l.values l.x-index l.ok

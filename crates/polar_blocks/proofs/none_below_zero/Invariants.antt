-- `polar_blocks::none_below_zero` meets its contract, by the laws of `Sweep`: a value offends where it is below zero. Assumes nothing.
use Rattle.error.proofs.Sweep.{Swept}
use Rattle.polar_blocks.specs.Inner.{below_zero}
use Rattle.polar_blocks.proofs.none_below_zero.Given as goal

abbrev pub invariant-loop-x : goal.invariant-loop-x
invariant-loop-x l = Swept below_zero l.values l.x-index l.ok

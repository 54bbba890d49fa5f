-- `polar_blocks::all_below_infinity` meets its contract, by the laws of `Sweep`: a value offends where it is not below infinity. Assumes nothing.
use Rattle.error.proofs.Sweep.{Swept}
use Rattle.polar_blocks.specs.Inner.{not_below_infinity}
use Rattle.polar_blocks.proofs.all_below_infinity.Given as goal

abbrev pub invariant-loop-x : goal.invariant-loop-x
invariant-loop-x l = Swept not_below_infinity l.values l.x-index l.ok

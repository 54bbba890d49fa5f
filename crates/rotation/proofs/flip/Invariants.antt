-- `rotation::flip` multiplies each value by its sign, in place.
-- The loop's invariant says that those passed are multiplied and that those ahead are as they were. Assumes nothing.
use lib.ListN.{get_or}
use lib.Ieee.{nan, binary32, mul}
use Rattle.lists.specs.Inner.{Filled}
use Rattle.rotation.proofs.flip.Given as goal

abbrev pub invariant-loop-i : goal.invariant-loop-i
invariant-loop-i l = Filled nan (λ j. mul binary32 (get_or l.initial.values j nan) (get_or l.signs j nan)) 0 l.i l.initial.values l.values

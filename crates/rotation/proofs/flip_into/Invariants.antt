-- `rotation::flip_into` leaves each value times its sign in the output. The loop's invariant says that those passed are written. Assumes nothing.
use lib.ListN.{get_or}
use lib.Ieee.{nan, binary32, mul}
use Rattle.lists.specs.Inner.{Filled}
use Rattle.rotation.proofs.flip_into.Given as goal

abbrev pub invariant-loop-i : goal.invariant-loop-i
invariant-loop-i l = Filled nan (λ j. mul binary32 (get_or l.input j nan) (get_or l.signs j nan)) 0 l.i l.initial.output l.output

-- `rotation::scale_by` multiplies each value by the factor, in place.
-- The loop's invariant says that those passed are multiplied and that those ahead are as they were. Assumes nothing.
use lib.ListN.{get_or}
use lib.Ieee.{nan, binary32, mul}
use Rattle.lists.specs.Inner.{Filled}
use Rattle.rotation.proofs.scale_by.Given as goal

abbrev pub invariant-loop-value : goal.invariant-loop-value
invariant-loop-value l = Filled nan (λ j. mul binary32 (get_or l.initial.values j nan) l.factor) 0 l.value-index l.initial.values l.values

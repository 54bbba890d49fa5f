-- `rotation_stored::add_rest` takes the columns that are left: the loop's invariant says how many each sum has taken. Assumes nothing.
use Rattle.rotation_stored.specs.Inner.{Taken}
use Rattle.rotation_stored.proofs.add_rest.Given as goal

abbrev pub invariant-loop-column : goal.invariant-loop-column
invariant-loop-column l = Taken l.matrix l.input l.column l.sums

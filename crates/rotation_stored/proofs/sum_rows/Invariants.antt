-- `rotation_stored::sum_rows` leaves the sum along each row: the loop's invariant says how many columns each sum has taken, four at a time. Assumes nothing.
use Prim.Native.Nat.{◌*◌}
use Rattle.rotation_stored.specs.Inner.{Taken}
use Rattle.rotation_stored.proofs.sum_rows.Given as goal

abbrev pub invariant-loop-i : goal.invariant-loop-i
invariant-loop-i l = Taken l.matrix l.input (4 * l.i) l.output

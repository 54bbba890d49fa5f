-- `rotation_stored::add_column` takes one column more: the loop fills the sums anew, each with its term. Assumes nothing.
use Prim.Native.Nat.{◌*◌}
use lib.ListN.{length, get_or}
use lib.Ieee.{nan}
use Rattle.lists.specs.Inner.{Filled}
use Rattle.rotation_stored.proofs.Columns.{column_added}
use Rattle.rotation_stored.proofs.add_column.Given as goal

abbrev pub invariant-loop-i : goal.invariant-loop-i
invariant-loop-i l = Filled nan (λ k. column_added l.matrix l.input (l.column * length l.initial.sums) l.column k (get_or l.initial.sums k nan)) 0 l.i l.initial.sums l.sums

-- `rotation_stored::add_four` takes four columns more: the loop fills the sums anew, each with its four terms. Assumes nothing.
use Prim.Native.Nat.{◌*◌}
use lib.ListN.{length, get_or}
use lib.Ieee.{nan}
use Rattle.lists.specs.Inner.{Filled}
use Rattle.rotation_stored.proofs.Columns.{four_added}
use Rattle.rotation_stored.proofs.add_four.Given as goal

abbrev pub invariant-loop-i : goal.invariant-loop-i
invariant-loop-i l = Filled nan (λ k. four_added l.matrix l.input (length l.initial.sums) (l.column * length l.initial.sums) l.column k (get_or l.initial.sums k nan)) 0 l.i l.initial.sums l.sums

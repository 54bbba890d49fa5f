-- `rotation_stages::doubles` is two stages, with steps h and 2 h.
-- The loop's invariant says that the blocks passed are done and that those ahead are as they were. Assumes nothing.
use Prim.Native.Nat.{◌≤◌, ◌-◌}
use lib.ListN.{length}
use Rattle.rotation_stages.proofs.Stages.{TwoThrough}
use Rattle.rotation_stages.proofs.doubles.Given as goal

abbrev pub invariant-loop-start : goal.invariant-loop-start
invariant-loop-start l = (l.start ≤ length l.initial.values) × TwoThrough l.h l.start l.initial.values l.values

abbrev pub decreases-loop-start : goal.decreases-loop-start
decreases-loop-start l = length l.initial.values - l.start

-- `rotation_stages::butterflies` is one stage with step h.
-- The loop's invariant says that the blocks passed are done and that those ahead are as they were. Assumes nothing.
use Prim.Native.Nat.{◌≤◌, ◌-◌}
use lib.ListN.{length}
use Rattle.rotation_stages.proofs.Stages.{OneThrough}
use Rattle.rotation_stages.proofs.butterflies.Given as goal

abbrev pub invariant-loop-start : goal.invariant-loop-start
invariant-loop-start l = (l.start ≤ length l.initial.values) × OneThrough l.h l.start l.initial.values l.values

abbrev pub decreases-loop-start : goal.decreases-loop-start
decreases-loop-start l = length l.initial.values - l.start

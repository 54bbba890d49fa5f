-- `rotation_stages::doubles` is two stages, with steps h and 2 h.
-- The loop's invariant says that the blocks passed are done and that those ahead are as they were. Assumes nothing.
use Prim.Native.Nat.{◌+◌, ◌*◌, ◌≤◌}
use native.Mathlib.Omega.{arith}
use lib.ListN.{length}
use Rattle.rotation_stages.proofs.Passes.{through-start, block-fits}
use Rattle.rotation_stages.proofs.Stages.{two-more, two-all}
use Rattle.rotation_stages.proofs.doubles.Goals.{After-slice_known-in-loop-start-1}
use Rattle.rotation_stages.proofs.doubles.Goals as goal

pub loop-start-init : goal.loop-start-init
loop-start-init c = (omega arith, through-start _ _ _)

-- the block that is left lies within the values
room : (c : goal.After-slice_known-in-loop-start-1) → c.loop-start.start + 4 * c.args.h ≤ length c.args.values.now
room c =
    let inv = c.loop-start.invariant.1 in
    let fits = block-fits _ _ _ _ _ inv c.requires (omega arith) in
    omega (arith, fits, inv.long)

pub double-requires : goal.double-requires
double-requires c = block-fits _ _ _ _ _ c.loop-start.invariant.1 c.requires (omega (arith, c.loop-start.invariant.1.long))

pub overflow_mul-start : goal.overflow_mul-start
overflow_mul-start c = omega (arith, room (goal.at.overflow_mul-start c).After-slice_known-in-loop-start-1, c.well_formed.0.0)

pub overflow_add-start : goal.overflow_add-start
overflow_add-start c = omega (arith, room (goal.at.overflow_add-start c).After-slice_known-in-loop-start-1, c.well_formed.0.0)

pub loop-start-smaller : goal.loop-start-smaller
loop-start-smaller c = omega (arith, room (goal.at.loop-start-smaller c).After-slice_known-in-loop-start-1, c.requires.above)

pub loop-start-preserved : goal.loop-start-preserved
loop-start-preserved c = (room (goal.at.loop-start-preserved c).After-slice_known-in-loop-start-1, two-more _ _ _ _ _ c.loop-start.invariant.1 c.double.ensures (room (goal.at.loop-start-preserved c).After-slice_known-in-loop-start-1))

pub shape_of-values : goal.shape_of-values
shape_of-values c = c.loop-start.invariant.1.long

pub returns : goal.returns
returns c = two-all _ _ _ _ c.loop-start.invariant.1 (omega (arith, c.loop-start.invariant.1.long))

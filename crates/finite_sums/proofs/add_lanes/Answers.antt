-- `finite_sums::add_lanes` meets its contract: after i turns, i sums have taken a value each. Assumes nothing.
use Rattle.std.proofs.Common.{add_assoc, length-set, arith}
use Rattle.finite_sums.proofs.Sums.{took_more}
use Rattle.finite_sums.proofs.add_lanes.Goals as goal

pub loop-i-preserved : goal.loop-i-preserved
loop-i-preserved c = let s = c.loop-i.invariant in
    record { long = simp length-set s.long; took = rw (← add_assoc c.args.at c.loop-i.i 1) (took_more _ _ _ (omega (arith, s.long)) s.took) }

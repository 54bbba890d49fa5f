-- `finite_sums::add_up` meets its contract: the sum so far has taken the values up to the next. Assumes nothing.
use Rattle.std.proofs.Common.{◌-◌, ◌<◌, length, add_assoc, arith}
use Rattle.std.proofs.lemmas.List.{get_or-take, get_or-drop}
use Rattle.finite_sums.proofs.Sums.{ran-more}
use Rattle.finite_sums.proofs.add_up.Goals as goal

pub loop-x-preserved : goal.loop-x-preserved
loop-x-preserved c = let h : c.loop-x.x-index < length c.args.values.now - c.args.from = omega arith in
    rw (← add_assoc c.args.from c.loop-x.x-index 1, get_or-take, get_or-drop) (ran-more _ _ c.loop-x.invariant)

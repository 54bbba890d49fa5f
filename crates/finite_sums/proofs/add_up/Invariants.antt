-- `finite_sums::add_up` meets its contract: the sum so far has taken the values up to the next. Assumes nothing.
use Rattle.std.proofs.Common.{◌+◌}
use Rattle.finite_sums.specs.Inner.{Ran}
use Rattle.finite_sums.proofs.add_up.Given as goal

abbrev pub invariant-loop-x : goal.invariant-loop-x
invariant-loop-x l = Ran l.values l.from (l.from + l.x-index) l.begun l.sum

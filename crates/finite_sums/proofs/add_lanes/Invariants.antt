-- `finite_sums::add_lanes` meets its contract: after i turns, i sums have taken a value each. Assumes nothing.
use Rattle.std.proofs.Common.{◌≡◌, ◌+◌, length}
use Rattle.finite_sums.specs.Inner.{Took}
use Rattle.finite_sums.proofs.add_lanes.Given as goal

abbrev pub invariant-loop-i : goal.invariant-loop-i
invariant-loop-i l = record { long : length l.more ≡ 32; took : Took l.values l.at (l.at + l.i) l.initial.more l.more }

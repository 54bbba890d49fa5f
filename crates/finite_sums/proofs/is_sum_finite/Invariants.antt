-- `finite_sums::is_sum_finite` meets its contract: the 32 sums have taken the values up to `at`, and the last sum takes them and the values after. Assumes nothing.
use Prim.Native.Nat.{◌-◌, ◌≤◌}
use mathlib.Core.Path.{◌≡◌}
use lib.ListN.{length}
use Rattle.finite_sums.specs.Inner.{Took}
use Rattle.finite_sums.proofs.is_sum_finite.Given as goal

abbrev pub invariant-loop-at : goal.invariant-loop-at
invariant-loop-at l = (l.at ≤ length l.values) × ((length l.sums ≡ 32) × Took l.values 0 l.at l.initial.sums l.sums)

abbrev pub decreases-loop-at : goal.decreases-loop-at
decreases-loop-at l = length l.values - l.at

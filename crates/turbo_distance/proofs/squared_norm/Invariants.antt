-- `turbo_distance::squared_norm` meets its contract: the loop keeps the norm as the running sum and what is left of the list. Assumes nothing.
use Rattle.std.proofs.Common.{◌≡◌}
use Rattle.turbo_distance.specs.Distance.{squared_norm}
use Rattle.turbo_distance.proofs.Norms.{norm_from}
use Rattle.turbo_distance.proofs.squared_norm.Given as goal

abbrev pub invariant-loop-x : goal.invariant-loop-x
invariant-loop-x l = squared_norm l.values ≡ norm_from l.values l.x-index l.sum

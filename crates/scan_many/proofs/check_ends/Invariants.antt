-- `scan_many::check_ends` meets its contract: each end that passes leaves those behind it. Assumes nothing.
use Rattle.std.proofs.Common.{◌≡◌, drop}
use Rattle.scan_many.specs.Many.{wrong_ends}
use Rattle.scan_many.proofs.check_ends.Given as goal

abbrev pub invariant-loop-end : goal.invariant-loop-end
invariant-loop-end l = wrong_ends l.long 0 l.ends ≡ wrong_ends l.long l.start (drop l.end-index l.ends)

-- `scan_closing::close` meets its contract: in the loop the list is `filled` up to the index. Assumes nothing.
use Rattle.std.proofs.Common.{◌≡◌}
use Rattle.scan_closing.proofs.Filling.{filled}
use Rattle.scan_closing.proofs.close.Given as goal

abbrev pub invariant-loop-i : goal.invariant-loop-i
invariant-loop-i l = l.out ≡ filled l.scan l.initial.out l.i

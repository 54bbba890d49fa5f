-- `scan_closing::answer` meets its contract. Assumes nothing.
use borrow.Author.Tests.{ne_eqb, eq-eqb}
use Rattle.scan_closing.specs.Closing.{close_of}
use Rattle.scan_closing.proofs.answer.Goals as goal

pub returns-then-room-scan : goal.returns-then-room-scan
unfolding close_of
returns-then-room-scan c = simp (ne_eqb _ _ c.if-room-scan.true)

pub returns : goal.returns
unfolding close_of
returns c = simp (eq-eqb _ _ c.if-room-scan.false)

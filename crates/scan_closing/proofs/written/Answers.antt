-- `scan_closing::written` meets its contract. Assumes nothing.
use borrow.Author.Tests.{ne_eqb, eq-eqb}
use Rattle.scan_closing.specs.Inner.{written_of}
use Rattle.scan_closing.proofs.written.Goals as goal

pub returns-then-room-scan : goal.returns-then-room-scan
unfolding written_of
returns-then-room-scan c = simp (eq-eqb _ _ c.if-room-scan.true)

pub returns : goal.returns
unfolding written_of
returns c = simp (ne_eqb _ _ c.if-room-scan.false)

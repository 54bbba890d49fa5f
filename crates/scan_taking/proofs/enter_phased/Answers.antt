-- `scan_taking::enter_phased` meets its contract, for each kind of answer. Assumes nothing.
use mathlib.Core.Path.{ap}
use Rattle.turbo_phased.specs.Estimates.{says_phased}
use Rattle.scan.specs.Scans.{scan_of}
use Rattle.scan_taking.proofs.Taking.{read-entered, unread-stays}
use Rattle.scan_taking.proofs.enter_phased.Goals as goal

pub returns-in-Ok : goal.returns-in-Ok
returns-in-Ok c = let a = c.args in
    read-entered (scan_of a.tally a.numbers.now a.scores.now) a.answer c.in-Ok.scored (ap says_phased c.in-Ok.is) c.enter.ensures

pub returns-in-Err : goal.returns-in-Err
returns-in-Err c = let a = c.args in
    unread-stays (scan_of a.tally a.numbers.now a.scores.now) a.answer _ c.in-Err.is

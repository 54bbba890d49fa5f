-- `scan_entering::enter` meets its contract: a scan that has taken all the numbers stays as it is, and each kind of answer is one case of what entering it comes to.
-- Assumes nothing.
use Rattle.std.proofs.Common.{arith, rules}
use Rattle.error.specs.Outcomes.{says_score}
use Rattle.scan_entering.proofs.Entered.{entered-full, entered-scored, entered-refused, entered-withdrawn}
use Rattle.scan_entering.proofs.enter.Goals as goal

pub returns-then-tally-eq-MOST_RECORDS : goal.returns-then-tally-eq-MOST_RECORDS
returns-then-tally-eq-MOST_RECORDS c = let a = c.args in
    entered-full a.tally a.numbers.now a.scores.now (says_score a.scored) (omega (arith, c.if-tally-eq-MOST_RECORDS.true))

pub returns-in-Score : goal.returns-in-Score
returns-in-Score c = let a = c.args in
    entered-scored a.tally a.numbers.now a.scores.now (search rules) a.scored _ c.in-Score.is c.enter_score.ensures

pub returns-in-Refused : goal.returns-in-Refused
returns-in-Refused c = let a = c.args in
    entered-refused a.tally a.numbers.now a.scores.now (search rules) a.scored _ c.in-Refused.is c.wrapping_add_u32.ensures.value

pub returns-in-Withdrawn : goal.returns-in-Withdrawn
returns-in-Withdrawn c = let a = c.args in
    entered-withdrawn a.tally a.numbers.now a.scores.now (search rules) a.scored c.in-Withdrawn.is c.wrapping_add_u32-in-Withdrawn.ensures.value

-- `scan_many::check_many` meets its contract: each return is one case of the laws of these checks. Assumes nothing.
use mathlib.Core.Path.{sym, ap, ◌∙◌}
use Rattle.error.specs.Outcomes.{says}
use Rattle.scan_many.proofs.Answers.{many-full, many-query, many-ends}
use Rattle.error.proofs.Passed.{passed_on}
use Rattle.scan_many.proofs.check_many.Goals as goal

pub returns-then-taken-ends : goal.returns-then-taken-ends
returns-then-taken-ends c = let a = c.args in sym (many-full a.taken a.setup a.directions.now a.rotated.now a.projected.now a.long a.ends.now c.if-taken-ends.true)

pub returns-in_err-check_prepared : goal.returns-in_err-check_prepared
returns-in_err-check_prepared c = let a = c.args in rw (passed_on c.from_residual.result c.from_residual.ensures.1) (sym (many-query a.taken a.setup a.directions.now a.rotated.now a.projected.now a.long a.ends.now c.if-taken-ends.false (sym c.in_err-check_prepared.ensures)))

pub returns : goal.returns
returns c = let a = c.args in c.check_ends.ensures ∙ sym (many-ends a.taken a.setup a.directions.now a.rotated.now a.projected.now a.long a.ends.now c.if-taken-ends.false (sym c.check_prepared.ensures ∙ ap says c.in_ok-check_prepared.was))

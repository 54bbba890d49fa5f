-- `codebook::ScalarCodebook::uniform` meets its contract: it says what the check says. Assumes nothing.
use mathlib.Core.Path.{sym, ap, ◌∙◌}
use Rattle.error.specs.Answer.{value}
use Rattle.error.specs.Outcomes.{says}
use Rattle.codebook.specs.Codebook.{uniform_of}
use Rattle.codebook.proofs.Checks.{check-refused, check-passed}
use Rattle.error.proofs.Passed.{passed_on}
use Rattle.codebook.proofs.ScalarCodebook.uniform.Goals as goal

pub returns : goal.returns
unfolding uniform_of
returns c = let a = c.args in
    sym (check-passed a.bits a.min a.max (value (record { bits = a.bits; min = a.min; max = a.max })) (sym c.check.ensures ∙ ap says c.in_ok-check.was))

pub returns-in_err-check : goal.returns-in_err-check
unfolding uniform_of
returns-in_err-check c = let a = c.args in
    rw (passed_on c.from_residual.result c.from_residual.ensures.1) (sym (check-refused a.bits a.min a.max (value (record { bits = a.bits; min = a.min; max = a.max })) (sym c.in_err-check.ensures)))

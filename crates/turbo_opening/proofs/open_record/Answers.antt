-- `turbo_opening::open_record` meets its contract: the scalars' checks, and then the record. Assumes nothing.
use mathlib.Core.Path.{sym, ap, ◌∙◌}
use Rattle.error.specs.Outcomes.{says}
use Rattle.turbo_opening.proofs.Answers.{open-scalars, open-usable}
use Rattle.error.proofs.Passed.{passed_on}
use Rattle.turbo_opening.proofs.open_record.Goals as goal

pub returns-in_err-check_scalars : goal.returns-in_err-check_scalars
returns-in_err-check_scalars c = let a = c.args in
    rw (passed_on c.from_residual.result c.from_residual.ensures.1) (sym (open-scalars a.setup a.bytes.now (sym c.in_err-check_scalars.ensures)))

pub returns : goal.returns
returns c = let a = c.args in
    c.hold_against.ensures ∙ sym (open-usable a.setup a.bytes.now (sym c.check_scalars.ensures ∙ ap says c.in_ok-check_scalars.was))

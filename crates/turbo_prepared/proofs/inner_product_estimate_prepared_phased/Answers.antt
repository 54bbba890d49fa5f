-- `turbo_prepared::inner_product_estimate_prepared_phased` meets its contract: what the checks refuse comes before the record is read, and the rest is the answer from
-- its reading on. Assumes nothing.
use mathlib.Core.Path.{sym, ap, ◌∙◌}
use Rattle.error.specs.Answer.{value}
use Rattle.error.specs.Outcomes.{says}
use Rattle.error.proofs.Chains.{first-passed}
use Rattle.error.proofs.Passed.{passed_on}
use Rattle.setup.specs.Checks.{scalar_checks}
use Rattle.turbo_prepared.proofs.Answers.{ready-usable, prepared-phased-refused, prepared-phased-passed}
use Rattle.turbo_prepared.proofs.inner_product_estimate_prepared_phased.Goals as goal

pub returns-in_err-check_prepared : goal.returns-in_err-check_prepared
returns-in_err-check_prepared c = let a = c.args in
    rw (passed_on c.from_residual.result c.from_residual.ensures.1) (sym (prepared-phased-refused a.setup a.directions.now a.rotated.now a.projected.now a.bytes.now (sym c.in_err-check_prepared.ensures)))

pub returns : goal.returns
returns c = let a = c.args in
    let passed = sym c.check_prepared.ensures ∙ ap says c.in_ok-check_prepared.was in
    c.from_reading.ensures
    ∙ ap value (c.record_score.ensures ∙ first-passed (scalar_checks a.setup) _ (ready-usable a.setup a.directions.now a.rotated.now a.projected.now passed))
    ∙ sym (prepared-phased-passed a.setup a.directions.now a.rotated.now a.projected.now a.bytes.now passed)

-- `turbo::inner_product_estimate_prepared` meets its contract: a score tells that every value of the prepared query is finite, one that passes its checks is scored, and
-- demand 3 asks only that the lent floats are f32. Assumes nothing.
use mathlib.Core.Path.{sym, ap, ◌∙◌}
use Rattle.error.specs.Outcomes.{says, says_score}
use Rattle.error.proofs.Chains.{first-passed}
use Rattle.setup.specs.Checks.{scalar_checks}
use Rattle.turbo_prepared.proofs.Answers.{prepared-refused, prepared-passed, ready-usable}
use Rattle.turbo.proofs.NothingHidden.{prepared-scored}
use Rattle.turbo.proofs.Prepared.{prepared-stands}
use Rattle.turbo.proofs.inner_product_estimate_prepared.Goals as goal

pub returns-in-Score : goal.returns-in-Score
returns-in-Score c = let a = c.args in
    record { said = sym (prepared-scored a.setup a.directions.now a.rotated.now a.projected.now a.bytes.now (c.is_fitting.ensures c.if-is_fitting.true) (sym (ap says_score c.in-Score.is) ∙ c.record_score-scored.ensures)); ordered = prepared-stands a.setup a.directions.now a.rotated.now a.projected.now (λ j h. c.type_inv.directions j) }

pub returns-in-Err : goal.returns-in-Err
returns-in-Err c = let a = c.args in
    record { said = sym (prepared-refused a.setup a.directions.now a.rotated.now a.projected.now a.bytes.now (sym c.check_prepared.ensures ∙ ap says c.in-Err.is)); ordered = prepared-stands a.setup a.directions.now a.rotated.now a.projected.now (λ j h. c.type_inv.directions j) }

pub returns : goal.returns
returns c = let a = c.args in
    let passed = sym c.check_prepared.ensures ∙ ap says c.in_default-check_prepared.is in
    record { said = c.record_score.ensures ∙ first-passed (scalar_checks a.setup) _ (ready-usable a.setup a.directions.now a.rotated.now a.projected.now passed) ∙ sym (prepared-passed a.setup a.directions.now a.rotated.now a.projected.now a.bytes.now passed); ordered = prepared-stands a.setup a.directions.now a.rotated.now a.projected.now (λ j h. c.type_inv.directions j) }

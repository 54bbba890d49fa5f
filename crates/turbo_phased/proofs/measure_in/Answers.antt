-- `turbo_phased::measure_in` meets its contract: the score reads what the turned query has left. Assumes nothing.
use mathlib.Core.Path.{sym, ap, ◌∙◌}
use native.Mathlib.Omega.{arith}
use Rattle.lists.proofs.Parts.{part-long}
use Rattle.error.specs.Answer.{value}
use Rattle.error.specs.Outcomes.{says}
use Rattle.error.proofs.Chains.{first-passed}
use Rattle.error.proofs.Passed.{passed_on}
use Rattle.setup.specs.Lent.{lent}
use Rattle.setup.specs.Checks.{scalar_checks}
use Rattle.turbo_query.proofs.Turned.{judged-turned}
use Rattle.turbo_phased.proofs.Answers.{phased-refused, turned-phased}
use Rattle.turbo_phased.proofs.measure_in.Goals as goal

pub returns-in_err-judge : goal.returns-in_err-judge
returns-in_err-judge g c = let a = c.args in
    let turned = judged-turned a.setup (lent a.rotation.now a.directions.now a.matrix.now) a.query.now _ _ c.turn_query-turned.ensures.rotated c.turn_query-turned.ensures.projected c.turn_query-turned.ensures.said (record { rotated_room = part-long _ _ (omega (arith, c.requires.1.0)); projected_room = part-long _ _ (omega (arith, c.requires.1.1.0, c.counted_projections-rows.ensures)) ∙ c.counted_projections-rows.ensures }) c.judge.ensures in
    rw (passed_on c.from_residual.result c.from_residual.ensures.1)
    (sym (phased-refused a.setup (lent a.rotation.now a.directions.now a.matrix.now) a.query.now a.bytes.now (sym turned.answer ∙ ap says c.in_err-judge.was)))

pub returns : goal.returns
returns g c = let a = c.args in
    let turned = judged-turned a.setup (lent a.rotation.now a.directions.now a.matrix.now) a.query.now _ _ c.turn_query-turned.ensures.rotated c.turn_query-turned.ensures.projected c.turn_query-turned.ensures.said (record { rotated_room = part-long _ _ (omega (arith, c.requires.1.0)); projected_room = part-long _ _ (omega (arith, c.requires.1.1.0, c.counted_projections-rows.ensures)) ∙ c.counted_projections-rows.ensures }) c.judge.ensures in
    c.from_reading.ensures
    ∙ ap value (c.record_score.ensures ∙ first-passed (scalar_checks a.setup) _ c.requires.0)
    ∙ turned-phased a.setup (lent a.rotation.now a.directions.now a.matrix.now) a.query.now a.bytes.now turned (ap says c.in_ok-judge.was)

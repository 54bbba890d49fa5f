-- `turbo_query::prepare_in` meets its contract: a check of the query refuses, or what is handed over decides. Assumes nothing.
use mathlib.Core.Path.{sym, ap, ◌∙◌}
use native.Mathlib.Omega.{arith}
use Rattle.lists.proofs.Parts.{part-long}
use Rattle.turbo_turn.proofs.Turned.{said_rotated_projected}
use Rattle.error.specs.Outcomes.{says}
use Rattle.setup.specs.Lent.{lent}
use Rattle.turbo_query.proofs.Turned.{judged-turned}
use Rattle.turbo_query.proofs.Answers.{prepare-refused, prepare-handed}
use Rattle.error.proofs.Passed.{passed_on}
use Rattle.turbo_query.proofs.prepare_in.Goals as goal

pub returns-in_err-judge : goal.returns-in_err-judge
returns-in_err-judge g c = let a = c.args in
    rw (passed_on c.from_residual.result c.from_residual.ensures.1) (let turned = judged-turned a.setup (lent a.rotation.now a.directions.now a.matrix.now) a.query.now _ _ c.turn_query-told.ensures.rotated c.turn_query-told.ensures.projected c.turn_query-told.ensures.said (record { rotated_room = part-long _ _ (omega (arith, c.requires.0)); projected_room = part-long _ _ (omega (arith, c.requires.1.0, c.counted_projections-rows.ensures)) ∙ c.counted_projections-rows.ensures }) c.judge.ensures in
    said_rotated_projected (prepare-refused a.setup (lent a.rotation.now a.directions.now a.matrix.now) a.query.now a.rotated.now a.projected.now (sym turned.answer ∙ ap says c.in_err-judge.was)))

pub returns : goal.returns
returns g c = let a = c.args in
    let turned = judged-turned a.setup (lent a.rotation.now a.directions.now a.matrix.now) a.query.now _ _ c.turn_query-told.ensures.rotated c.turn_query-told.ensures.projected c.turn_query-told.ensures.said (record { rotated_room = part-long _ _ (omega (arith, c.requires.0)); projected_room = part-long _ _ (omega (arith, c.requires.1.0, c.counted_projections-rows.ensures)) ∙ c.counted_projections-rows.ensures }) c.judge.ensures in
    said_rotated_projected (prepare-handed a.setup (lent a.rotation.now a.directions.now a.matrix.now) a.query.now a.rotated.now a.projected.now turned (ap says c.in_ok-judge.was)
    (c.turn_query-told.auto.rotated ∙ part-long _ _ (omega (arith, c.requires.0))) (c.turn_query-told.auto.projected ∙ part-long _ _ (omega (arith, c.requires.1.0, c.counted_projections-rows.ensures)) ∙ c.counted_projections-rows.ensures) c.hand_over.ensures)

-- `turbo_query::prepare_query` meets its contract: the scalars are judged first. Assumes nothing.
use mathlib.Core.Path.{sym, ap, ◌∙◌}
use Rattle.error.specs.Outcomes.{says}
use Rattle.setup.specs.Lent.{lent}
use Rattle.turbo_query.proofs.Answers.{query-scalars, prepare-refused}
use Rattle.turbo_turn.proofs.Turned.{said_rotated_projected}
use Rattle.error.proofs.Passed.{passed_on}
use Rattle.turbo_query.proofs.prepare_query.Goals as goal

pub prepare-requires : goal.prepare-requires
prepare-requires c = sym c.check_scalars.ensures ∙ ap says c.in_ok-check_scalars.was

pub returns-in_err-check_scalars : goal.returns-in_err-check_scalars
returns-in_err-check_scalars c = let a = c.args in
    let l = (lent a.rotation.now a.directions.now a.matrix.now) in
    rw (passed_on c.from_residual.result c.from_residual.ensures.1) (said_rotated_projected (prepare-refused a.setup l a.query.now a.rotated.now a.projected.now (query-scalars a.setup l a.query.now (sym c.in_err-check_scalars.ensures))))

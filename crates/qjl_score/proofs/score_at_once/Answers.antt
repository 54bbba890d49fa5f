-- `qjl_score::score_at_once` meets its contract: a score stands on finite sums, which stand for the checks of the matrix's entries and of the query. Assumes nothing.
use mathlib.Core.Path.{◌≡◌, sym, ◌∙◌}
use Rattle.error.specs.Answer.{first, accepted}
use Rattle.error.proofs.Passed.{not_refused}
use Rattle.setup.specs.Lent.{lent}
use Rattle.setup_tables.specs.Checks.{setup_checks_but_entries}
use Rattle.qjl_score.proofs.Answers.{shaped-residual, score-made, score-left}
use Rattle.qjl_score.proofs.score_at_once.Goals.{Else-is_err}
use Rattle.qjl_score.proofs.score_at_once.Goals as goal

-- what the checks leave, where they are done
passed : (c : goal.Else-is_err) → let a = c.args in first (setup_checks_but_entries a.setup (lent a.rotation.now a.directions.now a.matrix.now)) accepted ≡ accepted
passed c = sym c.check_but_entries.ensures ∙ not_refused _ (sym c.is_err.ensures.value ∙ c.if-is_err.false)

pub returns-then-is_err : goal.returns-then-is_err
returns-then-is_err c = score-left _

pub returns-then-query-dim : goal.returns-then-query-dim
returns-then-query-dim c = score-left _

pub residual_score-requires : goal.residual_score-requires
residual_score-requires c = let a = c.args in
    shaped-residual a.setup (lent a.rotation.now a.directions.now a.matrix.now) a.query.now (passed (goal.at.residual_score-requires c).Else-is_err) c.if-query-dim.false c.in-PolarWithQjl.is

pub returns-in-PolarOnly : goal.returns-in-PolarOnly
returns-in-PolarOnly c = score-left _

pub returns-in-PolarWithQjl : goal.returns-in-PolarWithQjl
returns-in-PolarWithQjl c = let a = c.args in
    score-made a.setup (lent a.rotation.now a.directions.now a.matrix.now) a.query.now (passed (goal.at.returns-in-PolarWithQjl c).Else-is_err) c.if-query-dim.false c.in-PolarWithQjl.is a.sketch.now a.norm c.residual_score.ensures

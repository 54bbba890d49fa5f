-- `turbo_query::judge` meets its contract: each return is one case of the laws of its answer. Assumes nothing.
use mathlib.Core.Path.{sym, ap, ◌∙◌}
use Rattle.error.specs.Outcomes.{says}
use Rattle.setup.specs.Lent.{lent}
use Rattle.turbo_query.proofs.Turned.{judge-clean, judge-refused, judge-unturned, judge-values}
use Rattle.error.proofs.Passed.{passed_on}
use Rattle.turbo_query.proofs.judge.Goals as goal

pub returns-then-is_clean : goal.returns-then-is_clean
returns-then-is_clean c = let a = c.args in
    judge-clean a.setup (lent a.rotation.now a.directions.now a.matrix.now) a.query.now (says a.turned) a.rotated.now a.projected.now c.is_clean.ensures c.if-is_clean.true

pub returns-in_err-check_vector : goal.returns-in_err-check_vector
returns-in_err-check_vector c = let a = c.args in
    rw (passed_on c.from_residual.result c.from_residual.ensures.1) (judge-refused a.setup (lent a.rotation.now a.directions.now a.matrix.now) a.query.now (says a.turned) a.rotated.now a.projected.now c.is_clean.ensures c.if-is_clean.false (sym c.in_err-check_vector.ensures))

pub returns-in_err-turned : goal.returns-in_err-turned
returns-in_err-turned c = let a = c.args in
    rw (passed_on c.from_residual-in_err-turned.result c.from_residual-in_err-turned.ensures.1) (judge-unturned a.setup (lent a.rotation.now a.directions.now a.matrix.now) a.query.now (says a.turned) a.rotated.now a.projected.now c.is_clean.ensures c.if-is_clean.false (sym c.check_vector.ensures ∙ ap says c.in_ok-check_vector.was) (ap says c.in_err-turned.was))

pub returns : goal.returns
returns c = let a = c.args in
    judge-values a.setup (lent a.rotation.now a.directions.now a.matrix.now) a.query.now (says a.turned) a.rotated.now a.projected.now c.is_clean.ensures c.if-is_clean.false (sym c.check_vector.ensures ∙ ap says c.in_ok-check_vector.was) (ap says c.in_ok-turned.was) c.check_values.ensures

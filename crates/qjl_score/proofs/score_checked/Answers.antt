-- `qjl_score::score_checked` meets its contract: each return is one case of the answer's laws. Assumes nothing.
use mathlib.Core.Path.{◌≡◌, sym, ap, ◌∙◌}
use lib.Ieee.{of_bits}
use Rattle.error.specs.Answer.{first, accepted}
use Rattle.error.specs.Outcomes.{says}
use Rattle.setup.specs.Lent.{lent}
use Rattle.qjl.specs.Sketch.{vector_checks}
use Rattle.qjl_score.proofs.Answers.{vector-residual, score-refused, score-residual, score-alone-length, score-alone-norm, score-alone}
use Rattle.qjl_score.proofs.score_checked.Goals.{In_default}
use Rattle.qjl_score.proofs.score_checked.Goals as goal

-- what the checks leave, where they are done
passed : (c : goal.In_default) → first (vector_checks c.args.setup (lent c.args.rotation.now c.args.directions.now c.args.matrix.now) c.args.query.now) accepted ≡ accepted
passed c = sym c.check_vector.ensures ∙ ap says c.in_default.is

pub returns-in-Err : goal.returns-in-Err
returns-in-Err c = let a = c.args in
    sym (score-refused a.setup (lent a.rotation.now a.directions.now a.matrix.now) a.query.now _ _ (sym c.check_vector.ensures ∙ ap says c.in-Err.is))

pub returns-then-sketch-ne0 : goal.returns-then-sketch-ne0
returns-then-sketch-ne0 c = let a = c.args in
    sym (score-alone-length a.setup (lent a.rotation.now a.directions.now a.matrix.now) a.query.now _ _ (passed (goal.at.returns-then-sketch-ne0 c).In_default) c.in-PolarOnly.is c.if-sketch-ne0.true)

pub returns-then-is_bad_radius : goal.returns-then-is_bad_radius
returns-then-is_bad_radius c = let a = c.args in
    sym
    (score-alone-norm a.setup (lent a.rotation.now a.directions.now a.matrix.now) a.query.now _ _ (passed (goal.at.returns-then-is_bad_radius c).In_default) c.in-PolarOnly.is c.if-sketch-ne0.false
    (sym c.is_bad_radius.ensures ∙ c.if-is_bad_radius.true))

pub residual_score-requires : goal.residual_score-requires
residual_score-requires c = let a = c.args in
    vector-residual a.setup (lent a.rotation.now a.directions.now a.matrix.now) a.query.now (passed (goal.at.residual_score-requires c).In_default) c.in-PolarWithQjl.is

pub returns-else-is_bad_radius : goal.returns-else-is_bad_radius
unfolding of_bits
returns-else-is_bad_radius c = let a = c.args in
    sym
    (score-alone a.setup (lent a.rotation.now a.directions.now a.matrix.now) a.query.now _ _ (passed (goal.at.returns-else-is_bad_radius c).In_default) c.in-PolarOnly.is c.if-sketch-ne0.false
    (sym c.is_bad_radius.ensures ∙ c.if-is_bad_radius.false))

pub returns-in-PolarWithQjl : goal.returns-in-PolarWithQjl
returns-in-PolarWithQjl c = let a = c.args in
    c.residual_score.ensures ∙ sym (score-residual a.setup (lent a.rotation.now a.directions.now a.matrix.now) a.query.now _ _ (passed (goal.at.returns-in-PolarWithQjl c).In_default) c.in-PolarWithQjl.is)

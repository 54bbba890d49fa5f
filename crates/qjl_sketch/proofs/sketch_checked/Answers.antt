-- `qjl_sketch::sketch_checked` meets its contract: each return is one case of the answer's laws, and the signs are those of `sketch_rows`. Assumes nothing.
use mathlib.Core.Path.{◌≡◌, refl, sym, ap, ◌∙◌}
use Rattle.error.specs.Answer.{first, accepted}
use Rattle.error.specs.Outcomes.{says}
use Rattle.error.proofs.Answers.{both-refused, both-value}
use Rattle.setup.specs.Lent.{lent}
use Rattle.qjl.specs.Sketch.{vector_checks}
use Rattle.qjl.proofs.Answers.{vector-ready}
use Rattle.qjl_sketch.proofs.Answers.{sketch-refused, sketch-room, sketch-value}
use Rattle.error.proofs.Clauses.{said_left}
use Rattle.error.proofs.Passed.{passed_on}
use Rattle.qjl_sketch.proofs.sketch_checked.Goals.{In_ok-check_vector}
use Rattle.qjl_sketch.proofs.sketch_checked.Goals as goal

-- what the checks leave, where they are done
passed : (c : goal.In_ok-check_vector) → first (vector_checks c.args.setup (lent c.args.rotation.now c.args.directions.now c.args.matrix.now) c.args.vector.now) accepted ≡ accepted
passed c = sym c.check_vector.ensures ∙ ap says c.in_ok-check_vector.was

pub returns-in_err-check_vector : goal.returns-in_err-check_vector
returns-in_err-check_vector c = rw (passed_on c.from_residual.result c.from_residual.ensures.1) (said_left (let a = c.args in
    both-refused _ _ (sketch-refused a.setup (lent a.rotation.now a.directions.now a.matrix.now) a.vector.now _ (sym c.in_err-check_vector.ensures))))

pub returns-then-out-rows : goal.returns-then-out-rows
returns-then-out-rows c = said_left (let a = c.args in
    both-refused _ _ (sketch-room a.setup (lent a.rotation.now a.directions.now a.matrix.now) a.vector.now _ (passed (goal.at.returns-then-out-rows c).In_ok-check_vector) c.counted_projections-rows.ensures c.if-out-rows.true))

pub sketch_rows-requires : goal.sketch_rows-requires
sketch_rows-requires c = let a = c.args in
    vector-ready a.setup (lent a.rotation.now a.directions.now a.matrix.now) a.vector.now (passed (goal.at.sketch_rows-requires c).In_ok-check_vector) c.counted_projections-rows.ensures c.if-out-rows.false

pub returns : goal.returns
returns c = said_left (let a = c.args in
    both-value _ _ _ (sketch-value a.setup (lent a.rotation.now a.directions.now a.matrix.now) a.vector.now _ (passed (goal.at.returns c).In_ok-check_vector) c.counted_projections-rows.ensures c.if-out-rows.false) (c.sketch_rows.ensures.signs (c.sketch_rows.ensures.whole refl)))

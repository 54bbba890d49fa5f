-- `turbo_turn::turn_query` meets its contract: the checks before the rotation's refuse, or the rotation decides, and then the projection refuses nothing. Assumes nothing.
use mathlib.Core.Path.{◌≡◌, refl, sym, ap, ◌∙◌}
use lib.ListN.{length}
use Rattle.error.specs.Answer.{first, accepted}
use Rattle.error.specs.Outcomes.{says}
use Rattle.error.proofs.Answers.{done-value, after-value}
use Rattle.setup.specs.Lent.{lent}
use Rattle.setup_rotation.specs.Rotations.{rotate_of}
use Rattle.turbo_turn.specs.Turning.{space_checks, turned_checks}
use Rattle.turbo_turn.proofs.Turned.{turned-unspaced, turned-decided, turned-rotates, turned-projects, done-keeps, said_rotated_projected, turn-refused, turn-made}
use Rattle.error.proofs.Passed.{passed_on}
use Rattle.turbo_turn.proofs.turn_query.Goals.{In_ok-check_spaces, In_ok-rotate}
use Rattle.turbo_turn.proofs.turn_query.Goals as goal

-- ---- what is known once a check has passed
spaces-pass : (c : goal.In_ok-check_spaces) → let a = c.args in first (space_checks a.setup a.directions.now (length a.matrix.now) (length a.projected.now)) accepted ≡ accepted
spaces-pass c = sym c.check_spaces.ensures ∙ ap says c.in_ok-check_spaces.was

all_pass : (c : goal.In_ok-rotate) → let a = c.args in first (turned_checks a.setup (lent a.rotation.now a.directions.now a.matrix.now) a.query.now (length a.rotated.now) (length a.projected.now)) accepted ≡ accepted
all_pass c =
    let a = c.args in
    sym (turned-decided a.setup (lent a.rotation.now a.directions.now a.matrix.now) a.query.now (length a.rotated.now) (length a.projected.now) (sym c.check_spaces.ensures ∙ ap says c.in_ok-check_spaces.was)) ∙ sym c.rotate.ensures.said ∙ ap says c.in_ok-rotate.was

pub returns-in_err-check_spaces : goal.returns-in_err-check_spaces
returns-in_err-check_spaces c = let a = c.args in
    rw (passed_on c.from_residual.result c.from_residual.ensures.1) (let l = lent a.rotation.now a.directions.now a.matrix.now in
    said_rotated_projected (turn-refused a.setup l a.query.now a.rotated.now a.projected.now
    (turned-unspaced a.setup l a.query.now (length a.rotated.now) (length a.projected.now) (sym c.in_err-check_spaces.ensures)) refl))

pub returns-in_err-rotate : goal.returns-in_err-rotate
returns-in_err-rotate c = let a = c.args in
    rw (passed_on c.from_residual-in_err-rotate.result c.from_residual-in_err-rotate.ensures.1) (let l = lent a.rotation.now a.directions.now a.matrix.now in
    let e = sym c.rotate.ensures.said ∙ ap says c.in_err-rotate.was in
    said_rotated_projected (turn-refused a.setup l a.query.now a.rotated.now a.projected.now
    (sym (turned-decided a.setup l a.query.now (length a.rotated.now) (length a.projected.now) (spaces-pass (goal.at.returns-in_err-rotate c).In_ok-check_spaces)) ∙ e)
    (c.rotate.ensures.left ∙ done-keeps (rotate_of a.setup a.rotation.now a.query.now (length a.rotated.now)) a.rotated.now e)))

pub returns : goal.returns
returns c = let a = c.args in
    let l = lent a.rotation.now a.directions.now a.matrix.now in
    let n = length a.rotated.now in
    let m = length a.projected.now in
    let rotates = turned-rotates a.setup l a.query.now n m (all_pass (goal.at.returns c).In_ok-rotate) in
    let projects = turned-projects a.setup l a.query.now n m (all_pass (goal.at.returns c).In_ok-rotate) in
    said_rotated_projected (turn-made a.setup l a.query.now a.rotated.now a.projected.now (all_pass (goal.at.returns c).In_ok-rotate)
    (c.project.ensures.said ∙ done-value _ projects)
    (c.rotate.ensures.left ∙ after-value _ a.rotated.now rotates)
    (c.project.ensures.left ∙ after-value _ a.projected.now projects))

-- `rotation_stored::inverse_checked` answers `stored_apply_inverse_of`: after the checks it projects on the columns, and a refusal leaves the output as it was.
-- Assumes nothing.
use mathlib.Core.Path.{◌≡◌, sym, ap, ◌∙◌}
use lib.ListN.{length}
use Rattle.error.specs.Answer.{first, accepted}
use Rattle.error.specs.Outcomes.{says}
use Rattle.error.proofs.Answers.{both-refused}
use Rattle.rotation_stored.specs.Checks.{stored_checks}
use Rattle.rotation_stored.proofs.Accepted.{stored-inverse-refused, stored-inverse-projects}
use Rattle.error.proofs.Clauses.{said_left}
use Rattle.error.proofs.Passed.{passed_on}
use Rattle.rotation_stored.proofs.inverse_checked.Goals.{In_ok-check}
use Rattle.rotation_stored.proofs.inverse_checked.Goals as goal

-- what the check leaves, where it is done
passed : (c : goal.In_ok-check) → first (stored_checks c.args.dim c.args.matrix.now (length c.args.input.now) (length c.args.output.now)) accepted ≡ accepted
passed c = sym c.check.ensures ∙ ap says c.in_ok-check.was

pub returns-in_err-check : goal.returns-in_err-check
returns-in_err-check c = rw (passed_on c.from_residual.result c.from_residual.ensures.1) (said_left (both-refused _ _ (stored-inverse-refused _ _ _ _ (sym c.in_err-check.ensures))))

pub returns : goal.returns
returns c = let called = c.project.ensures in
    let a = c.args in
    let same = stored-inverse-projects a.dim a.matrix.now a.input.now (length a.output.now) (passed (goal.at.returns c).In_ok-check) in
    rw same at called

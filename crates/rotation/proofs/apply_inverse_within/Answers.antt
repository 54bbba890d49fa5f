-- `rotation::apply_inverse_within` answers `apply_inverse_of` of the values, in place: after the checks it turns them back, and a refusal leaves them
-- as they were. Assumes nothing.
use mathlib.Core.Path.{◌≡◌, sym, ap, ◌∙◌}
use lib.ListN.{length}
use Rattle.error.specs.Answer.{first, accepted}
use Rattle.error.specs.Outcomes.{says}
use Rattle.error.proofs.Answers.{both-refused, both-value}
use Rattle.rotation.specs.Checks.{rotation_checks}
use Rattle.rotation.proofs.Accepted.{Rotatable, rotatable}
use Rattle.rotation.proofs.Applied.{inverse-refused, inverse-value}
use Rattle.error.proofs.Clauses.{said_left}
use Rattle.error.proofs.Passed.{passed_on}
use Rattle.rotation.proofs.apply_inverse_within.Goals.{In_ok-check}
use Rattle.rotation.proofs.apply_inverse_within.Goals as goal

-- what the check leaves, where it is done
passed : (c : goal.In_ok-check) → first (rotation_checks c.args.dim c.args.signs.now (length c.args.values.now) (length c.args.values.now)) accepted ≡ accepted
passed c = sym c.check.ensures ∙ ap says c.in_ok-check.was

fit : (c : goal.In_ok-check) → Rotatable c.args.dim c.args.signs.now (length c.args.values.now) (length c.args.values.now)
fit c = rotatable _ _ _ _ (passed c)

pub returns-in_err-check : goal.returns-in_err-check
returns-in_err-check c = rw (passed_on c.from_residual.result c.from_residual.ensures.1) (said_left (both-refused _ _ (inverse-refused _ _ _ _ (sym c.in_err-check.ensures))))

pub turn_back-requires : goal.turn_back-requires
turn_back-requires c = let f = fit (goal.at.turn_back-requires c).In_ok-check in
    (record { bit = f.power.bit; small = f.power.small; whole = f.output_long }, f.signs_long ∙ sym f.output_long)

pub returns : goal.returns
returns c = said_left (both-value _ _ _ (inverse-value _ _ _ _ (passed (goal.at.returns c).In_ok-check)) c.turn_back.ensures)

-- `rotation::apply` answers `apply_of`: after the checks it flips the signs into the output and transforms it there,
-- and a refusal leaves the output as it was. Assumes nothing.
use mathlib.Core.Path.{◌≡◌, sym, ap, ◌∙◌}
use lib.ListN.{length}
use Rattle.error.specs.Answer.{first, accepted}
use Rattle.error.specs.Outcomes.{says}
use Rattle.error.proofs.Answers.{both-refused, both-value}
use Rattle.rotation.specs.Checks.{rotation_checks}
use Rattle.rotation.specs.Rotation.{hadamard_of, rotated}
use Rattle.rotation.proofs.Accepted.{Rotatable, rotatable}
use Rattle.rotation.proofs.Applied.{applied-refused, applied-value}
use Rattle.error.proofs.Clauses.{said_left}
use Rattle.error.proofs.Passed.{passed_on}
use Rattle.rotation.proofs.apply.Goals.{In_ok-check}
use Rattle.rotation.proofs.apply.Goals as goal

-- what the check leaves, where it is done
passed : (c : goal.In_ok-check) → first (rotation_checks c.args.dim c.args.signs.now (length c.args.input.now) (length c.args.output.now)) accepted ≡ accepted
passed c = sym c.check.ensures ∙ ap says c.in_ok-check.was

fit : (c : goal.In_ok-check) → Rotatable c.args.dim c.args.signs.now (length c.args.input.now) (length c.args.output.now)
fit c = rotatable _ _ _ _ (passed c)

pub returns-in_err-check : goal.returns-in_err-check
returns-in_err-check c = rw (passed_on c.from_residual.result c.from_residual.ensures.1) (said_left (both-refused _ _ (applied-refused _ _ _ _ (sym c.in_err-check.ensures))))

pub flip_into-requires : goal.flip_into-requires
flip_into-requires c = let f = fit (goal.at.flip_into-requires c).In_ok-check in
    (f.signs_long ∙ sym f.input_long, f.output_long ∙ sym f.input_long)

pub hadamard-requires : goal.hadamard-requires
hadamard-requires c = let f = fit (goal.at.hadamard-requires c).In_ok-check in
    record { bit = f.power.bit; small = f.power.small; whole = c.flip_into.auto.output ∙ f.output_long }

pub returns : goal.returns
unfolding rotated
returns c = said_left (both-value _ _ _ (applied-value _ _ _ _ (passed (goal.at.returns c).In_ok-check)) (c.hadamard.ensures ∙ ap (hadamard_of c.args.dim) c.flip_into.ensures))

-- `rotation_stored::apply_checked` answers `stored_apply_of`: after the checks it sums along the rows into the output, and a refusal leaves the output as it was.
-- Assumes nothing.
use Prim.Native.Nat.{ℕ, ◌*◌}
use mathlib.Core.Path.{◌≡◌, sym, ap, ◌∙◌}
use lib.ListN.{length}
use Rattle.error.specs.Answer.{first, accepted}
use Rattle.error.specs.Outcomes.{says}
use Rattle.error.proofs.Answers.{both-refused, both-value}
use Rattle.rotation_stored.specs.Checks.{stored_checks}
use Rattle.rotation_stored.specs.Stored.{stored_rotated}
use Rattle.rotation_stored.proofs.Accepted.{Storable, storable, stored_refused, stored-value}
use Rattle.error.proofs.Clauses.{said_left}
use Rattle.error.proofs.Passed.{passed_on}
use Rattle.rotation_stored.proofs.apply_checked.Goals.{In_ok-check}
use Rattle.rotation_stored.proofs.apply_checked.Goals as goal

-- what the check leaves, where it is done
passed : (c : goal.In_ok-check) → first (stored_checks c.args.dim c.args.matrix.now (length c.args.input.now) (length c.args.output.now)) accepted ≡ accepted
passed c = sym c.check.ensures ∙ ap says c.in_ok-check.was

fit : (c : goal.In_ok-check) → Storable c.args.dim c.args.matrix.now (length c.args.input.now) (length c.args.output.now)
fit c = storable _ _ _ _ (passed c)

pub returns-in_err-check : goal.returns-in_err-check
returns-in_err-check c = rw (passed_on c.from_residual.result c.from_residual.ensures.1) (said_left (both-refused _ _ (stored_refused _ _ _ _ (sym c.in_err-check.ensures))))

pub sum_rows-requires : goal.sum_rows-requires
sum_rows-requires c = let f = fit (goal.at.sum_rows-requires c).In_ok-check in
    let e = sym f.input_long in
    (f.matrix_long ∙ ap (λ (n : ℕ). n * n) e, f.output_long ∙ e)

pub returns : goal.returns
returns c = said_left (let a = c.args in
    both-value _ _ _ (stored-value _ _ _ _ (passed (goal.at.returns c).In_ok-check)) (c.sum_rows.ensures ∙ ap (λ (n : ℕ). stored_rotated n a.matrix.now a.input.now) (fit (goal.at.returns c).In_ok-check).input_long))

-- `radius_reading::restore` meets its contract: the refusal of a check, or what was read. Assumes nothing.
use Prim.Native.Nat.{ℕ, ◌*◌}
use mathlib.Core.Path.{◌≡◌, sym, ap, ◌∙◌}
use native.Mathlib.Omega.{arith}
use lib.ListN.{length}
use borrow.Author.Tests.{eq-eqb, ne_eqb}
use Rattle.error.specs.Answer.{first, accepted}
use Rattle.error.specs.Outcomes.{says}
use Rattle.error.proofs.Answers.{both-refused, both-value}
use Rattle.radius.specs.Codec.{width_of, radii_for}
use Rattle.radius_reading.specs.Inner.{profile_checks}
use Rattle.radius_reading.proofs.Checks.{fit-known, fit_length, fit-restore, unfit-restore}
use Rattle.error.proofs.Clauses.{said_left}
use Rattle.error.proofs.Passed.{passed_on}
use Rattle.radius_reading.proofs.restore.Goals.{In_ok-check_profile}
use Rattle.radius_reading.proofs.restore.Goals as goal

-- past the checks of the profile and the length
fit : (c : goal.In_ok-check_profile) → let a = c.args in first (profile_checks a.profile a.count a.payload.now) accepted ≡ accepted
fit c = sym c.check_profile.ensures ∙ ap says c.in_ok-check_profile.was

pub returns-in_err-check_profile : goal.returns-in_err-check_profile
returns-in_err-check_profile c = rw (passed_on c.from_residual.result c.from_residual.ensures.1) (said_left (both-refused _ _ (unfit-restore _ _ _ _ (sym c.in_err-check_profile.ensures) _)))

pub returns-then-out-count : goal.returns-then-out-count
returns-then-out-count c = said_left (let a = c.args in
    both-refused _ _ (fit-restore _ _ _ (fit (goal.at.returns-then-out-count c).In_ok-check_profile) _ _ ∙ rw (ne_eqb (length a.out.now) a.count (λ e. omega arith))))

pub read_payload-requires : goal.read_payload-requires
read_payload-requires c = let a = c.args in
    (fit-known a.profile a.count a.payload.now (fit (goal.at.read_payload-requires c).In_ok-check_profile), fit_length a.profile a.count a.payload.now (fit (goal.at.read_payload-requires c).In_ok-check_profile) ∙ ap (λ (n : ℕ). width_of a.profile * n) (sym c.if-out-count.false))

pub returns : goal.returns
returns c = said_left (let a = c.args in
    both-value _ _ _ (fit-restore _ _ _ (fit (goal.at.returns c).In_ok-check_profile) _ _ ∙ rw (eq-eqb _ _ c.if-out-count.false))
    (c.read_payload.ensures ∙ ap (λ (n : ℕ). radii_for a.profile n a.range a.payload.now) c.if-out-count.false))

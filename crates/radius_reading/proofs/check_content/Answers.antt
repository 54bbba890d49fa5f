-- `radius_reading::check_content` meets its contract: the refusal of the profile and the length, or what the content is judged. Assumes nothing.
use Prim.Native.Nat.{◌*◌}
use mathlib.Core.Path.{◌≡◌, refl, sym, ap, ◌∙◌}
use mathlib.Core.List.{[], ◌∷◌}
use native.Mathlib.Omega.{arith}
use borrow.Author.Tests.{lt-ltb, le-ltb}
use lib.ListN.{length}
use Rattle.error.specs.Answer.{Answer, first, accepted}
use Rattle.error.specs.Outcomes.{says}
use Rattle.lists.proofs.Chunks.{length-chunks}
use Rattle.radius.specs.Codec.{wrong_content}
use Rattle.radius_reading.specs.Inner.{profile_checks, content_checks}
use Rattle.radius_reading.proofs.Checks.{fit_length, fit-content, unfit-content}
use Rattle.error.proofs.Passed.{passed_on}
use Rattle.radius_reading.proofs.check_content.Goals.{In_ok-check_profile}
use Rattle.radius_reading.proofs.check_content.Goals as goal

-- past the checks of the profile and the length, those of the content are left
fit : (c : goal.In_ok-check_profile) → let a = c.args in first (profile_checks a.profile a.count a.payload.now) accepted ≡ accepted
fit c = sym c.check_profile.ensures ∙ ap says c.in_ok-check_profile.was

left : (c : goal.In_ok-check_profile) {said : Answer (Unit {0})} → let a = c.args in said ≡ first (wrong_content a.profile a.count a.range a.payload.now ∷ []) accepted → said ≡ first (content_checks a.profile a.count a.range a.payload.now) accepted
left c e = let a = c.args in e ∙ sym (fit-content a.profile a.count a.payload.now (fit c) a.range)

pub returns-in_err-check_profile : goal.returns-in_err-check_profile
returns-in_err-check_profile c = let a = c.args in
    rw (passed_on c.from_residual.result c.from_residual.ensures.1) (sym (unfit-content a.profile a.count a.range a.payload.now (sym c.in_err-check_profile.ensures)))

pub first_bad_floats-bad-requires : goal.first_bad_floats-bad-requires
first_bad_floats-bad-requires c = let a = c.args in let e : length a.payload.now ≡ 4 * a.count = rw c.in-F32.is at (fit_length a.profile a.count a.payload.now (fit (goal.at.first_bad_floats-bad-requires c).In_ok-check_profile)) in omega arith

pub returns-then-bad-count : goal.returns-then-bad-count
returns-then-bad-count c = left (goal.at.returns-then-bad-count c).In_ok-check_profile (rw c.in-F32.is (simp (length-chunks, ← c.first_bad_floats-bad.ensures, lt-ltb _ _ c.if-bad-count.true)))

pub returns-then-is_bad_range : goal.returns-then-is_bad_range
returns-then-is_bad_range c = left (goal.at.returns-then-is_bad_range c).In_ok-check_profile (rw c.in-BlockLinearU16.is (simp (sym c.is_bad_range.ensures ∙ c.if-is_bad_range.true)))

pub returns-else-bad-count : goal.returns-else-bad-count
returns-else-bad-count c = left (goal.at.returns-else-bad-count c).In_ok-check_profile (rw c.in-F32.is (simp (length-chunks, ← c.first_bad_floats-bad.ensures, le-ltb _ _ c.if-bad-count.false)))

pub returns-else-is_bad_range : goal.returns-else-is_bad_range
returns-else-is_bad_range c = left (goal.at.returns-else-is_bad_range c).In_ok-check_profile (rw c.in-BlockLinearU16.is (simp (sym c.is_bad_range.ensures ∙ c.if-is_bad_range.false)))

pub returns-in-BlockLogU8 : goal.returns-in-BlockLogU8
returns-in-BlockLogU8 c = left (goal.at.returns-in-BlockLogU8 c).In_ok-check_profile (rw c.in-BlockLogU8.is refl)

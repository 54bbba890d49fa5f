-- A refusal that a call passes on by `?` is the callee's refusal, and where there is none the call is accepted. Assumes nothing.
use mathlib.Core.Path.{◌≡◌, refl, ap, ◌∙◌}
use mathlib.Core.Bool.{false, true≢false}
use Rattle.std.specs.Prelude.{Result, Ok, Err}
use Rattle.std.specs.Result.{IsErrAnd, is_err}
use Rattle.std.proofs.lemmas.Result.{err_from_is_err_and}
use Rattle.error.specs.Answer.{accepted}
use Rattle.error.specs.Outcomes.{says}
use Rattle.error.specs.declared.Refusal.{Refusal}

pub passed_on : {A : Type 0} (r : Result A Refusal) {x : Refusal} → IsErrAnd r (λ y. y ≡ x) → r ≡ Err x
passed_on r both = let p = err_from_is_err_and r both in p.1 ∙ ap Err p.2

-- a call that has no value of its own and is no refusal is accepted
pub not_refused : (r : Result (Unit {0}) Refusal) → is_err r ≡ false → says r ≡ accepted
not_refused (Ok tt) e = refl
not_refused (Err x) e = absurd (true≢false e)

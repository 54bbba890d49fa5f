-- A list of checks, one at a time: one that offends is the answer, and one that passes leaves the rest of the list. Assumes nothing.
use Rattle.std.proofs.Common.{◌≡◌, ℕ, Bool, true, false, sym, ap, ◌∙◌}
use Rattle.error.specs.Answer.{Answer, refused, check, unless}

module _ {A : Type 0} {b : Bool} (n p : ℕ) (rest : Answer A) where
  pub stops : b ≡ true → refused n p ≡ unless (check b n p) rest
  stops e = sym (ap (λ (c : Bool). unless (check c n p) rest) e)

  pub goes_on : {r : Answer A} → b ≡ false → r ≡ rest → r ≡ unless (check b n p) rest
  goes_on e f = f ∙ sym (ap (λ (c : Bool). unless (check c n p) rest) e)

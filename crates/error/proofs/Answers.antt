-- What an answer says of lent memory, by its three cases. Assumes nothing.
use Prim.Native.Nat.{ℕ}
use mathlib.Core.Path.{◌≡◌, sym, ap, ◌∙◌}
use Rattle.error.specs.Answer.{Answer, value, refused, withdrawn, accepted, done, after}

module _ {A : Type 0} where
  -- a refusal leaves the former contents
  pub after-refused : (a : Answer A) (old : A) {n p : ℕ} → a ≡ refused n p → after a old ≡ old
  after-refused a old e = ap (λ (b : Answer A). after b old) e

  -- a value is there whole, whatever was there before
  pub after-value : (a : Answer A) (old : A) {x : A} → a ≡ value x → after a old ≡ x
  after-value a old e = ap (λ (b : Answer A). after b old) e

  pub done_refused : (a : Answer A) {n p : ℕ} → a ≡ refused n p → done a ≡ refused n p
  done_refused a e = ap done e

  pub done-value : (a : Answer A) {x : A} → a ≡ value x → done a ≡ accepted
  done-value a e = ap done e

  -- the answer and the lent memory, both at once
  pub both-refused : (a : Answer A) (old : A) {n p : ℕ} → a ≡ refused n p → (refused n p ≡ done a) × (old ≡ after a old)
  both-refused a old e = (sym (done_refused a e), sym (after-refused a old e))

  pub both-withdrawn : (a : Answer A) (old : A) → a ≡ withdrawn → (withdrawn ≡ done a) × (old ≡ after a old)
  both-withdrawn a old e = (sym (ap done e), sym (ap (λ (b : Answer A). after b old) e))

  pub both-value : (a : Answer A) (old : A) {x : A} (new : A) → a ≡ value x → new ≡ x → (accepted ≡ done a) × (new ≡ after a old)
  both-value a old new e f = (sym (done-value a e), f ∙ sym (after-value a old e))

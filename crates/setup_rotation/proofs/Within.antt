-- A stored rotation back into room that has all the values or, where they are more than it takes, none: the answer is that of room for all. Assumes nothing.
use Prim.Native.Nat.{ℕ, ◌≤◌, ◌<◌}
use mathlib.Core.Path.{◌≡◌, refl, sym, ap, ◌∙◌}
use mathlib.Core.Bool.{true, false}
use mathlib.Core.List.{List, [], ◌∷◌, ◌++◌}
use native.Mathlib.Decide.{dec_lt}
use native.Mathlib.Omega.{arith}
use borrow.Author.Tests.{eqb-true, ltb-false, not-false}
use lib.ListN.{length}
use lib.Ieee.{Float}
use Rattle.error.specs.Answer.{Answer, refused, Check, check, first, accepted, done, after}
use Rattle.error.specs.Checks.{wrong_input, wrong_room}
use Rattle.error.proofs.Answers.{after-value, both-value}
use Rattle.error.proofs.Chains.{Passed, first-append, first_done}
use Rattle.float.specs.Copying.{copy_into_of}
use Rattle.float.proofs.Copying.{copy_into-same}
use Rattle.rotation_stored.specs.Checks.{matrix_checks, stored_checks}
use Rattle.rotation_stored.specs.Stored.{stored_unrotated, stored_apply_inverse_of}
use Rattle.rotation_stored.proofs.Accepted.{storable, stored-inverse-refused, stored-inverse-value}

-- where a check of the chain offends, what stands at its end doesn't count
first_alike : {A : Type 0} (cs : List Check) (a b : Answer A) → (Passed cs → ⊥) → first cs a ≡ first cs b
first_alike [] a b offends = absurd (offends tt)
first_alike (check true n p ∷ cs) a b offends = refl
first_alike (check false n p ∷ cs) a b offends = first_alike cs a b (λ passed. offends (refl, passed))

module _ (n : ℕ) (matrix xs : List Float) (room : ℕ) (whole : length xs ≤ 512 → room ≡ length xs) where
  -- all checks but that of the room
  before-room : List Check
  before-room = matrix_checks n matrix ++ (wrong_input (length xs) n ∷ [])

  too_many : 512 < length xs → Passed before-room → ⊥
  unfolding before-room
  too_many more passed =
      let small = ltb-false 512 n passed.1.1.0 in
      let long = eqb-true (length xs) n (not-false _ passed.1.1.1.1.1.0) in
      omega arith

  room-checks : first (stored_checks n matrix (length xs) room) accepted ≡ first (stored_checks n matrix (length xs) (length xs)) accepted
  unfolding before-room
  room-checks = elim (dec_lt 512 (length xs)) [ yes more ↦ alike more | no few ↦ ap (λ (r : ℕ). first (stored_checks n matrix (length xs) r) accepted) (whole (omega arith)) ]
    where
      alike : 512 < length xs → first (stored_checks n matrix (length xs) room) accepted ≡ first (stored_checks n matrix (length xs) (length xs)) accepted
      alike more =
          first-append before-room (wrong_room room n ∷ []) accepted
          ∙ first_alike before-room (first (wrong_room room n ∷ []) accepted) (first (wrong_room (length xs) n ∷ []) accepted) (too_many more)
          ∙ sym (first-append before-room (wrong_room (length xs) n ∷ []) accepted)

  done-checks : (r : ℕ) → done (stored_apply_inverse_of n matrix xs r) ≡ first (stored_checks n matrix (length xs) r) accepted
  unfolding stored_apply_inverse_of
  done-checks r = first_done (stored_checks n matrix (length xs) r) (stored_unrotated n matrix xs)

  pub within-refused : {number place : ℕ} → refused number place ≡ done (stored_apply_inverse_of n matrix xs room) → stored_apply_inverse_of n matrix xs (length xs) ≡ refused number place
  within-refused e = stored-inverse-refused n matrix xs (length xs) (sym room-checks ∙ sym (done-checks room) ∙ sym e)

  module _ (e : accepted ≡ done (stored_apply_inverse_of n matrix xs room)) where
    pub within-passed : first (stored_checks n matrix (length xs) room) accepted ≡ accepted
    within-passed = sym (done-checks room) ∙ sym e

    -- what the part holds is copied back, which is as long as the values
    pub within-copied : (old ys new : List Float) → length ys ≡ room → ys ≡ after (stored_apply_inverse_of n matrix xs room) old → new ≡ copy_into_of ys xs
        → (accepted ≡ done (stored_apply_inverse_of n matrix xs (length xs))) × (new ≡ after (stored_apply_inverse_of n matrix xs (length xs)) xs)
    within-copied old ys new long held copy =
        let fit = storable n matrix (length xs) room within-passed in
        both-value _ _ _ (stored-inverse-value n matrix xs (length xs) (sym room-checks ∙ within-passed))
        (copy ∙ copy_into-same ys xs (long ∙ fit.output_long ∙ sym fit.input_long) ∙ held ∙ after-value _ _ (stored-inverse-value n matrix xs room within-passed))

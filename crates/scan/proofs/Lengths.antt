-- The length in force: the least of those that a scan was opened with and was given. Assumes nothing.
use Prim.Native.Nat.{ℕ, zero, suc, min, ◌≤◌}
use mathlib.Core.Path.{◌≡◌, refl, ap, ◌∙◌}
use mathlib.Core.Bool.{Bool, true, false, cond}
use mathlib.Core.List.{List, [], ◌∷◌}
use mathlib.Core.Logic.{⊎_elim}
use native.Mathlib.Omega.{arith}
use borrow.Author.Tests.{ne_eqb, ltb-true, ltb-false}
use lib.Dec.{ltb}
use Rattle.ranking.proofs.Ranking.{either}
use Rattle.scan.specs.Shortening.{Step, came, asked, bad_shorter, length_after}
use Rattle.scan.specs.AsOpened.{lengths_of, least_length}

module _ {A : Type 0} (k : ℕ) where
  -- a length that is asked for is given, or the present one stays
  pub length-asked : (n : ℕ) (steps : List (Step A)) (b : Bool) → bad_shorter (length_after k steps) n ≡ b → length_after k (asked n ∷ steps) ≡ cond b (length_after k steps) n
  length-asked n steps true e = simp e
  length-asked n steps false e = simp e

  -- it is the smaller of the two, where it isn't 0
  shorter-some : (n : ℕ) (steps : List (Step A)) → length_after k (asked (suc n) ∷ steps) ≡ min (suc n) (length_after k steps)
  shorter-some n steps =
      let some = ne_eqb (suc n) 0 (λ (z : suc n ≡ 0). absurd (omega arith)) in
      ⊎_elim
      (λ (b : ltb (length_after k steps) (suc n) ≡ true). length-asked (suc n) steps true (simp (some, b)) ∙ omega (arith, ltb-true (length_after k steps) (suc n) b))
      (λ (b : ltb (length_after k steps) (suc n) ≡ false). length-asked (suc n) steps false (simp (some, b)) ∙ omega (arith, ltb-false (length_after k steps) (suc n) b))
      (either (ltb (length_after k steps) (suc n)))

  pub length-least : (steps : List (Step A)) → length_after k steps ≡ least_length k (lengths_of steps)
  unfolding lengths_of least_length
  length-least [] = refl
  length-least (came a ∷ steps) = length-least steps
  length-least (asked zero ∷ steps) = length-least steps
  length-least (asked (suc n) ∷ steps) = shorter-some n steps ∙ ap (min (suc n)) (length-least steps)

  pub length-few : (steps : List (Step A)) → length_after k steps ≤ k
  length-few [] = omega arith
  length-few (came a ∷ steps) = length-few steps
  length-few (asked zero ∷ steps) = length-few steps
  length-few (asked (suc n) ∷ steps) = omega (arith, shorter-some n steps, length-few steps)

  pub length_some : 1 ≤ k → (steps : List (Step A)) → 1 ≤ length_after k steps
  length_some some [] = some
  length_some some (came a ∷ steps) = length_some some steps
  length_some some (asked zero ∷ steps) = length_some some steps
  length_some some (asked (suc n) ∷ steps) = omega (arith, shorter-some n steps, length_some some steps)

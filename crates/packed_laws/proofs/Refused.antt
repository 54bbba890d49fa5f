-- A refusal with a number that one check of a chain has alone, or that two checks one behind the other have, and the item that a search names. Assumes nothing.
use Prim.Native.Nat.{ℕ, ◌<◌}
use mathlib.Core.Path.{◌≡◌, refl, subst}
use mathlib.Core.Bool.{Bool, true, false, not, true≢false}
use mathlib.Core.List.{List, [], ◌∷◌, ◌++◌}
use native.Mathlib.Nat.{not-suc-le-zero}
use native.Mathlib.Omega.{arith}
use lib.Dec.{T, eqb, eqb_refl, T_not}
use lib.ListN.{length, get_or}
use Rattle.error.specs.Answer.{value, refused, Check, check, first, place}
use Rattle.error.proofs.Chains.{Passed, value-not-refused}
use Rattle.error.proofs.Places.{place-bad, place-good}

-- no check of the chain has this number
abbrev pub Other : ℕ → List Check → Type 0
Other n [] = Unit {0}
Other n (check b k p ∷ cs) = T (not (eqb k n)) × Other n cs

same_number : (k n : ℕ) → T (not (eqb k n)) → k ≡ n → ⊥
same_number k n t e = T_not (eqb k n) t (subst (λ (j : ℕ). T (eqb k j)) e (eqb_refl k))

module _ {A : Type 0} (a : A) where
  not-refused : (n : ℕ) (cs : List Check) {q : ℕ} → Other n cs → first cs (value a) ≡ refused n q → ⊥
  not-refused n [] o e = value-not-refused e
  not-refused n (check true k p ∷ cs) o e = same_number k n o.0 (cc)
  not-refused n (check false k p ∷ cs) o e = not-refused n cs o.1 e

  -- the one check that has the number offends, and those before it passed
  pub refused-here : (cs : List Check) (b : Bool) (n p : ℕ) (ds : List Check) {q : ℕ} → Other n cs → Other n ds → first (cs ++ (check b n p ∷ ds)) (value a) ≡ refused n q → Passed cs × ((b ≡ true) × (p ≡ q))
  refused-here [] true n p ds o u e = (tt, (refl, cc))
  refused-here [] false n p ds o u e = absurd (not-refused n ds u e)
  refused-here (check true k r ∷ cs) b n p ds o u e = absurd (same_number k n o.0 (cc))
  refused-here (check false k r ∷ cs) b n p ds o u e = let rest = refused-here cs b n p ds o.1 u e in ((refl, rest.0), rest.1)

  -- of two checks that have it, one behind the other, the first passes: then the second offends
  pub refused-second : (cs : List Check) (b c : Bool) (n r p : ℕ) (ds : List Check) {q : ℕ} → Other n cs → Other n ds → b ≡ false → first (cs ++ (check b n r ∷ check c n p ∷ ds)) (value a) ≡ refused n q → Passed cs × ((c ≡ true) × (p ≡ q))
  refused-second [] true c n r p ds o u f e = absurd (true≢false f)
  refused-second [] false c n r p ds o u f e = refused-here [] c n p ds tt u e
  refused-second (check true k s ∷ cs) b c n r p ds o u f e = absurd (same_number k n o.0 (cc))
  refused-second (check false k s ∷ cs) b c n r p ds o u f e = let rest = refused-second cs b c n r p ds o.1 u f e in ((refl, rest.0), rest.1)

-- the item at the first place that offends does offend
pub place-offends : {A : Type 0} (bad : A → Bool) (xs : List A) (d : A) → place bad xs < length xs → bad (get_or xs (place bad xs) d) ≡ true
place-offends bad [] d h = absurd (not-suc-le-zero h)
place-offends bad (x ∷ xs) d h = split (λ g. place-offends bad xs d g) (bad x) refl
  where
    split : (place bad xs < length xs → bad (get_or xs (place bad xs) d) ≡ true) → (t : Bool) → bad x ≡ t → bad (get_or (x ∷ xs) (place bad (x ∷ xs)) d) ≡ true
    split rest true e = rw (place-bad bad x xs e) e
    split rest false e = rw (place-good bad x xs e) (rest (let z = place-good bad x xs e in omega (arith, z, h)))

-- The first item of a list that offends, found by a loop: before index i none offended, and what is left is the same question of the rest.
-- A loop keeps `place bad xs ≡ i + place bad (drop i xs)`; `place-start` opens it, `place-skip` is one turn, `place_here` and `place_end` its two ends.
-- `place-position` and `found-position` are for a search by `position`. Assumes nothing.
use Prim.Native.Nat.{ℕ, zero, suc, ◌+◌, ◌≤◌, ◌<◌, suc-le-suc}
use mathlib.Core.Path.{◌≡◌, refl, sym, ap, ◌∙◌}
use mathlib.Core.Bool.{Bool, true, false, cond}
use mathlib.Core.List.{List, [], ◌∷◌}
use native.Mathlib.Nat.{zero-add, le_of_suc-le-suc, not-suc-le-zero}
use native.Mathlib.Numerals.{add-one}
use native.Mathlib.Omega.{arith}
use borrow.Author.Tests.{lt-ltb, le-ltb, ltb-true, ltb-false}
use lib.Dec.{ltb}
use lib.ListN.{length, get_or, drop, drop_of_length-le}
use lib.Seq.{drop-cons}
use Rattle.std.proofs.Common.{Option, Some, None, MatchOption, unwrap_or, Bor, Iter}
use Rattle.std.specs.Fn.{Called}
use Rattle.std.specs.Iterator.{YieldsThen}
use Rattle.std.specs.List.{FoldsTo, AllWithin, HoldsAt}
use Rattle.std.specs.Slice.Iter.{iter_rest}
use Rattle.std.proofs.iter.Yields.{fronts}
use Rattle.std.proofs.lemmas.Iterator.{IsFirst-from_position, YieldsList-from_slice, index_from_first}
use denote.Param.Members.{Mut}
use Rattle.error.specs.Answer.{place, found}

module _ {A : Type 0} where
  pub place-nil : (bad : A → Bool) → place bad [] ≡ 0
  unfolding place
  place-nil bad = refl

  pub place-bad : (bad : A → Bool) (x : A) (xs : List A) → bad x ≡ true → place bad (x ∷ xs) ≡ 0
  unfolding place
  place-bad bad x xs e = rw e

  pub place-good : (bad : A → Bool) (x : A) (xs : List A) → bad x ≡ false → place bad (x ∷ xs) ≡ suc (place bad xs)
  unfolding place
  place-good bad x xs e = rw e

  pub place-le : (bad : A → Bool) (xs : List A) → place bad xs ≤ length xs
  unfolding place
  place-le bad [] = omega arith
  place-le bad (x ∷ xs) = split (bad x) (place-le bad xs)
    where
      split : (b : Bool) → place bad xs ≤ length xs → cond b 0 (suc (place bad xs)) ≤ suc (length xs)
      split true h = omega arith
      split false h = omega arith

  -- ---- a loop that looks for it

  pub place-start : (bad : A → Bool) (xs : List A) → place bad xs ≡ 0 + place bad (drop 0 xs)
  place-start bad xs = sym (zero-add (place bad xs))

  pub place-skip : (bad : A → Bool) (xs : List A) (i : ℕ) (d : A) → i < length xs → bad (get_or xs i d) ≡ false → place bad xs ≡ i + place bad (drop i xs) → place bad xs ≡ (i + 1) + place bad (drop (i + 1) xs)
  place-skip bad xs i d h good inv =
      let here = ap (place bad) (drop-cons xs i d h) ∙ place-good bad (get_or xs i d) (drop (suc i) xs) good in
      rw add-one (omega (arith, inv, here))

  pub place_here : (bad : A → Bool) (xs : List A) (i : ℕ) (d : A) → i < length xs → bad (get_or xs i d) ≡ true → place bad xs ≡ i + place bad (drop i xs) → place bad xs ≡ i
  place_here bad xs i d h offends inv =
      let here = ap (place bad) (drop-cons xs i d h) ∙ place-bad bad (get_or xs i d) (drop (suc i) xs) offends in
      omega (arith, inv, here)

  pub place_end : (bad : A → Bool) (xs : List A) (i : ℕ) → length xs ≤ i → place bad xs ≡ i + place bad (drop i xs) → place bad xs ≡ i
  place_end bad xs i h inv = let here = ap (place bad) (drop_of_length-le xs h) ∙ place-nil bad in omega (arith, inv, here)

  -- ---- `position`, whose closure asks whether an item offends

  pub place-position : (bad : A → Bool) (xs : List A) {F : Type 0} {g : Mut F (Bor A × Unit {0}) Bool} {s : Iter A} (u : Iter A) (f : F) {r : Option ℕ} {n : ℕ}
      → n ≡ unwrap_or r (length xs)
      → (ys : List (Bor A)) × (o : Option (Bor A)) × (j : F) × YieldsThen fronts s ys o u × FoldsTo (λ p x q. Called g p (x, tt) false q) f ys j
      × MatchOption o (r ≡ None) (λ x. (r ≡ Some (length ys)) × ((h : F) × Called g j (x, tt) true h))
      → iter_rest s ≡ xs
      → ((x : Bor A) (q : F) → Called g f (x, tt) true q → bad x.now ≡ true)
      → ((x : Bor A) (q : F) → Called g f (x, tt) false q → (q ≡ f) × (bad x.now ≡ false))
      → n ≡ place bad xs
  place-position bad xs u f {r} e ran rest hit miss =
      let found = IsFirst-from_position u f r (λ x. bad x ≡ true) (λ x. bad x ≡ false) ran (YieldsList-from_slice xs rest) hit miss in
      e ∙ sym (index_from_first (place bad) (λ x. bad x ≡ true) (λ x. bad x ≡ false) (place-nil bad) (place-bad bad) (λ x ys h. place-good bad x ys h ∙ sym (add-one _)) xs r found)

  -- so it is found where an item offends
  pub found-position : (bad : A → Bool) (xs : List A) {F : Type 0} {g : Mut F (Bor A × Unit {0}) Bool} {s : Iter A} (u : Iter A) (f : F) {r : Option ℕ}
      → (ys : List (Bor A)) × (o : Option (Bor A)) × (j : F) × YieldsThen fronts s ys o u × FoldsTo (λ p x q. Called g p (x, tt) false q) f ys j
      × MatchOption o (r ≡ None) (λ x. (r ≡ Some (length ys)) × ((h : F) × Called g j (x, tt) true h))
      → iter_rest s ≡ xs
      → ((x : Bor A) (q : F) → Called g f (x, tt) true q → bad x.now ≡ true)
      → ((x : Bor A) (q : F) → Called g f (x, tt) false q → (q ≡ f) × (bad x.now ≡ false))
      → r ≡ found (place bad xs) (length xs)
  found-position bad xs u f {r} ran rest hit miss =
      split r (IsFirst-from_position u f r (λ x. bad x ≡ true) (λ x. bad x ≡ false) ran (YieldsList-from_slice xs rest) hit miss) (place-position bad xs u f refl ran rest hit miss)
    where
      split : (o : Option ℕ) → MatchOption o (AllWithin (λ x. bad x ≡ false) xs 0 (length xs)) (λ i. (i < length xs) × HoldsAt (λ x. bad x ≡ true) xs i × AllWithin (λ x. bad x ≡ false) xs 0 i) → unwrap_or o (length xs) ≡ place bad xs → o ≡ found (place bad xs) (length xs)
      split None h e = rw (le-ltb (place bad xs) (length xs) (omega (arith, e))) refl
      split (Some i) h e = let here : place bad xs < length xs = omega (arith, e, h.0) in rw (lt-ltb (place bad xs) (length xs) here) (ap Some e)

  -- ---- what an accepted list has

  -- no item offends where the place is the length
  pub place-passed : (bad : A → Bool) (xs : List A) (d : A) → place bad xs ≡ length xs → (i : ℕ) → i < length xs → bad (get_or xs i d) ≡ false
  place-passed bad [] d e i h = absurd (not-suc-le-zero h)
  place-passed bad (x ∷ xs) d e i h = split (λ f j. place-passed bad xs d f j) (bad x) refl i h
    where
      split : (place bad xs ≡ length xs → (j : ℕ) → j < length xs → bad (get_or xs j d) ≡ false) → (b : Bool) → bad x ≡ b → (j : ℕ) → j < suc (length xs) → bad (get_or (x ∷ xs) j d) ≡ false
      split rest true t j g = let z = place-bad bad x xs t in absurd (omega (arith, z, e))
      split rest false f zero g = f
      split rest false f (suc j) g = rest (let z = place-good bad x xs f in omega (arith, z, e)) j (le_of_suc-le-suc g)

  -- ---- the check `each`, from what a search returned

  -- a place is what is found, or how many items there are
  pub found-or : (bad : A → Bool) (xs : List A) {r : Option ℕ} → r ≡ found (place bad xs) (length xs) → unwrap_or r (length xs) ≡ place bad xs
  found-or bad xs e = ap (λ (o : Option ℕ). unwrap_or o (length xs)) e ∙ split (ltb (place bad xs) (length xs)) refl
    where
      split : (b : Bool) → ltb (place bad xs) (length xs) ≡ b → unwrap_or (cond b (Some (place bad xs)) None) (length xs) ≡ place bad xs
      split true f = refl
      split false f = let most = place-le bad xs in let least = ltb-false (place bad xs) (length xs) f in omega (arith, most, least)

  -- a place past the end is none
  pub found-end : (bad : A → Bool) (xs : List A) → length xs ≡ place bad xs → None ≡ found (place bad xs) (length xs)
  found-end bad xs e = rw (le-ltb (place bad xs) (length xs) (omega (arith, e))) refl

  pub each-offends : (bad : A → Bool) (xs : List A) {i : ℕ} → i ≡ place bad xs → i < length xs → ltb (place bad xs) (length xs) ≡ true
  each-offends bad xs {i} e l = lt-ltb (place bad xs) (length xs) (omega (arith, e))

  pub each-passes : (bad : A → Bool) (xs : List A) {i : ℕ} → i ≡ place bad xs → length xs ≤ i → ltb (place bad xs) (length xs) ≡ false
  each-passes bad xs {i} e l = le-ltb (place bad xs) (length xs) (omega (arith, e))

  -- and back: where the check passes, no item offends
  pub each-clear : (bad : A → Bool) (xs : List A) (d : A) → ltb (place bad xs) (length xs) ≡ false → (i : ℕ) → i < length xs → bad (get_or xs i d) ≡ false
  each-clear bad xs d e = place-passed bad xs d (let most = place-le bad xs in let least = ltb-false (place bad xs) (length xs) e in omega (arith, most, least))

  place-all : (bad : A → Bool) (xs : List A) (d : A) → ((i : ℕ) → i < length xs → bad (get_or xs i d) ≡ false) → length xs ≤ place bad xs
  place-all bad [] d h = omega arith
  place-all bad (x ∷ xs) d h =
      let here = place-good bad x xs (h 0 (omega arith)) in
      let rest = place-all bad xs d (λ i g. h (suc i) (suc-le-suc g)) in
      omega (arith, here, rest)

  -- where no item offends, the check passes
  pub each_none : (bad : A → Bool) (xs : List A) (d : A) → ((i : ℕ) → i < length xs → bad (get_or xs i d) ≡ false) → ltb (place bad xs) (length xs) ≡ false
  each_none bad xs d h = le-ltb (place bad xs) (length xs) (place-all bad xs d h)

-- ---- what a search found

module _ {r : Option ℕ} {at long : ℕ} (e : r ≡ found at long) where
  pub is_found : {i : ℕ} → r ≡ Some i → (i ≡ at) × (i < long)
  is_found {i} f = split (ltb at long) refl (sym e ∙ f)
    where
      split : (b : Bool) → ltb at long ≡ b → cond b (Some at) None ≡ Some i → (i ≡ at) × (i < long)
      split true h g = let same : at ≡ i = cc in (sym same, omega (arith, same, ltb-true at long h))
      split false h g = absurd (cc)

  pub is_none : r ≡ None → long ≤ at
  is_none f = split (ltb at long) refl (sym e ∙ f)
    where
      split : (b : Bool) → ltb at long ≡ b → cond b (Some at) None ≡ None → long ≤ at
      split true h g = absurd (cc)
      split false h g = ltb-false at long h

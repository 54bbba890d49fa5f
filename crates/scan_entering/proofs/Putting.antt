-- An item is put in at a place by moving those behind it and then storing it. The place is found from the last upward. Assumes nothing.
use Rattle.std.proofs.Common.{◌≡◌, ℕ, zero, suc, ◌+◌, ◌-◌, ◌<◌, ◌≤◌, true, false, List, [], ◌∷◌, ◌++◌, length, get_or, take, drop, set, refl, sym, ap, ◌∙◌, append_assoc, add-one, arith}
use Rattle.std.specs.List.{copy_within}
use native.Mathlib.Numerals.{unary_clauses}
use lib.Ieee.{Float, nan, lt}
use Rattle.scan.specs.Entering.{place_up, compared_up, put_in}

module _ {A : Type 0} where
  -- an item is stored behind what stands in front of its place
  stored : (at : ℕ) (x : A) (xs rest : List A) → at < length xs → set (take (suc at) xs ++ rest) at x ≡ take at xs ++ (x ∷ rest)
  stored at x [] rest h = absurd (omega arith)
  stored zero x (y ∷ ys) rest h = refl
  stored (suc at) x (y ∷ ys) rest h = ap (λ (l : List A). y ∷ l) (stored at x ys rest (omega arith))

  -- those behind the place are moved down, and the item is stored
  pub put-stored : (at last : ℕ) (x : A) (xs : List A) → at ≤ last → last < length xs → set (copy_within xs at last (at + 1)) at x ≡ put_in at last x xs
  unfolding put_in
  put-stored at last x xs le h =
      let end : at + 1 + (last - at) ≡ suc last = omega arith in
      let moved = take (last - at) (drop at xs) in
      let behind = drop (suc last) xs in
      rw (end, add-one at, append_assoc (take (suc at) xs) moved behind) (stored at x xs (moved ++ behind) (omega arith) ∙ sym (append_assoc (take at xs) (x ∷ moved) behind))

-- no score is left, the one before stops the new one, or it is beaten: the place, and the comparisons
module _ (x : Float) (scores : List Float) where
  pub up_none : (place_up x scores 0 ≡ 0) × (compared_up x scores 0 ≡ 0)
  unfolding place_up compared_up
  up_none = (refl, refl)

  pub up-stopped : (i : ℕ) → 0 < i → lt (get_or scores (i - 1) nan) x ≡ false → (place_up x scores i ≡ i) × (compared_up x scores i ≡ 1)
  unfolding place_up compared_up
  up-stopped zero h e = absurd (omega arith)
  up-stopped (suc i) h e = let f = simp unary_clauses at e in (simp f, simp f)

  pub up-passed : (i : ℕ) → 0 < i → lt (get_or scores (i - 1) nan) x ≡ true → (place_up x scores i ≡ place_up x scores (i - 1)) × (compared_up x scores i ≡ suc (compared_up x scores (i - 1)))
  unfolding place_up compared_up
  up-passed zero h e = absurd (omega arith)
  up-passed (suc i) h e = let f = simp unary_clauses at e in (simp (unary_clauses, f), simp (unary_clauses, f))

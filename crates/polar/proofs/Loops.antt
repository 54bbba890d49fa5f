-- A loop over the pairs 0, 1, .. below n with two stores for each. It keeps that what is stored so far, with what is left from pair i on, is the whole:
-- `laid-start` opens it, `laid_more` is one turn, and `laid_end` its end. Assumes nothing.
use Rattle.std.proofs.Common.{◌≡◌, ℕ, suc, ◌+◌, ◌-◌, ◌*◌, ◌<◌, ◌≤◌, List, [], ◌∷◌, ◌++◌, length, take, set, sym, ap, ◌∙◌, append_assoc, append-nil, add-one, arith, length-set, take_all, take-suc-set}
use native.Mathlib.Nat.{sub-zero}
use lib.Ieee.{Float}
use Rattle.rounding.specs.Butterfly.{from}
use Rattle.rounding.proofs.Running.{from-none, from_next}
use Rattle.polar.specs.Polar.{laid}

module _ (f g : ℕ → Float) (n : ℕ) where
  pub laid-start : (out : List Float) → laid f g (from 0 n) ≡ take (2 * 0) out ++ laid f g (from 0 (n - 0))
  laid-start out = rw sub-zero

  pub laid_more : (i : ℕ) (out : List Float) (a b : Float) {whole : List Float} → i < n → 2 * i + 1 < length out → a ≡ f i → b ≡ g i
      → whole ≡ take (2 * i) out ++ laid f g (from i (n - i))
      → whole ≡ take (2 * (i + 1)) (set (set out (2 * i) a) (2 * i + 1) b) ++ laid f g (from (i + 1) (n - (i + 1)))
  unfolding laid
  laid_more i out a b h room e d inv =
      inv
      ∙ ap (λ (is : List ℕ). take (2 * i) out ++ laid f g is) (from_next i n h)
      ∙ ap (λ (v : Float). take (2 * i) out ++ (v ∷ g i ∷ left)) (sym e)
      ∙ ap (λ (v : Float). take (2 * i) out ++ (a ∷ v ∷ left)) (sym d)
      ∙ sym (ap (λ (vs : List Float). vs ++ left) two-stores ∙ append_assoc (take (2 * i) out ++ (a ∷ [])) (b ∷ []) left ∙ append_assoc (take (2 * i) out) (a ∷ []) (b ∷ left))
    where
      left : List Float
      left = laid f g (from (i + 1) (n - (i + 1)))

      next : 2 * (i + 1) ≡ suc (suc (2 * i))
      next = omega arith

      two-stores : take (2 * (i + 1)) (set (set out (2 * i) a) (2 * i + 1) b) ≡ (take (2 * i) out ++ (a ∷ [])) ++ (b ∷ [])
      two-stores =
          rw (next, add-one (2 * i))
          (take-suc-set (set out (2 * i) a) (suc (2 * i)) b (simp length-set (omega arith)) ∙ ap (λ (vs : List Float). vs ++ (b ∷ [])) (take-suc-set out (2 * i) a (omega arith)))

  pub laid_end : (i : ℕ) (out : List Float) {whole : List Float} → n ≤ i → length out ≤ 2 * i → whole ≡ take (2 * i) out ++ laid f g (from i (n - i)) → out ≡ whole
  unfolding laid
  laid_end i out h all inv = sym (inv ∙ ap (λ (is : List ℕ). take (2 * i) out ++ laid f g is) (from-none i n h) ∙ append-nil _ ∙ take_all (2 * i) out all)

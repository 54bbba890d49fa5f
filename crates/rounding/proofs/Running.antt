-- A running sum and a dot product as loops. A loop keeps that what is done so far, with what is left from index i on, is the whole: `..-start` opens it,
-- `..-more` is one turn, and `..-end` its end. Assumes nothing.
use Prim.Native.Nat.{ℕ, zero, suc, ◌+◌, ◌-◌, ◌≤◌, ◌<◌}
use mathlib.Core.Path.{◌≡◌, refl, sym, ap, ◌∙◌}
use mathlib.Core.List.{List, [], ◌∷◌, map}
use native.Mathlib.Nat.{sub-zero, add-zero, add-suc}
use native.Mathlib.Numerals.{add-one}
use native.Mathlib.Omega.{arith}
use lib.ListN.{length, get_or, drop, drop_of_length-le}
use lib.Seq.{drop-cons}
use lib.Ieee.{Float, nan, binary32, add, mul}
use Rattle.float.specs.Constants.{pos_zero}
use Rattle.rounding.specs.Butterfly.{from}
use Rattle.rounding.specs.Sums.{running, total, products, dot}
use Rattle.rounding.specs.Inner.{SoFar}

-- ---- what is left, by what is left of the count
pub from-none : (i n : ℕ) → n ≤ i → from i (n - i) ≡ []
unfolding from
from-none i n h = let e : n - i ≡ 0 = omega arith in rw e

pub from_next : (i n : ℕ) → i < n → from i (n - i) ≡ i ∷ from (i + 1) (n - (i + 1))
unfolding from
from_next i n h = let e : n - i ≡ suc (n - (i + 1)) = omega arith in rw e (rw add-one)

pub length_from : (start count : ℕ) → length (from start count) ≡ count
unfolding from
length_from start zero = refl
length_from start (suc count) = ap suc (length_from (suc start) count)

-- ---- a running sum of terms
module _ (f : ℕ → Float) (n : ℕ) where
  pub total-start : total (map f (from 0 n)) ≡ running pos_zero (map f (from 0 (n - 0)))
  total-start = rw sub-zero

  pub total-more : (i : ℕ) (acc v : Float) {whole : Float} → i < n → v ≡ f i → whole ≡ running acc (map f (from i (n - i)))
      → whole ≡ running (add binary32 acc v) (map f (from (i + 1) (n - (i + 1))))
  unfolding running
  total-more i acc v h e inv = inv ∙ ap (λ (is : List ℕ). running acc (map f is)) (from_next i n h) ∙ ap (λ (u : Float). running (add binary32 acc u) (map f (from (i + 1) (n - (i + 1))))) (sym e)

  pub total-end : (i : ℕ) (acc : Float) {whole : Float} → n ≤ i → whole ≡ running acc (map f (from i (n - i))) → acc ≡ whole
  unfolding running
  total-end i acc h inv = sym (inv ∙ ap (λ (is : List ℕ). running acc (map f is)) (from-none i n h))

-- ---- a dot product
products-nil : (vs : List Float) → products vs [] ≡ []
unfolding products
products-nil [] = refl
products-nil (v ∷ vs) = refl

pub dot-start : (vs cs : List Float) (from : ℕ) → SoFar vs cs from 0 pos_zero
dot-start vs cs from = ap (λ (k : ℕ). running pos_zero (products (drop k vs) cs)) (sym (add-zero from))

dot-step : (vs cs : List Float) (from i : ℕ) (acc : Float) → from + i < length vs → i < length cs
    → running acc (products (drop (from + i) vs) (drop i cs))
    ≡ running (add binary32 acc (mul binary32 (get_or vs (from + i) nan) (get_or cs i nan))) (products (drop (from + (i + 1)) vs) (drop (i + 1) cs))
unfolding running products
dot-step vs cs from i acc h g = rw (drop-cons vs (from + i) nan, drop-cons cs i nan, add-one i, add-suc from i)

pub dot-more : (vs cs : List Float) (from i : ℕ) (acc : Float) → from + i < length vs → i < length cs → SoFar vs cs from i acc
    → SoFar vs cs from (i + 1) (add binary32 acc (mul binary32 (get_or vs (from + i) nan) (get_or cs i nan)))
dot-more vs cs from i acc h g inv = inv ∙ dot-step vs cs from i acc h g

pub nothing_left : (vs cs : List Float) (i : ℕ) (acc : Float) → length cs ≤ i → running acc (products vs (drop i cs)) ≡ acc
unfolding running
nothing_left vs cs i acc h = rw (drop_of_length-le cs h, products-nil vs)

pub dot-end : (vs cs : List Float) (from i : ℕ) (acc : Float) → length cs ≤ i → SoFar vs cs from i acc → acc ≡ dot (drop from vs) cs
dot-end vs cs from i acc h inv = sym (inv ∙ nothing_left (drop (from + i) vs) cs i acc h)

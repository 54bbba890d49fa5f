-- A squared norm found by a loop, and the distance put together from two of them and a score. Assumes nothing.
use Prim.Native.Nat.{ℕ, ◌+◌, ◌≤◌, ◌<◌}
use mathlib.Core.Path.{◌≡◌, ◌∙◌, sym}
use mathlib.Core.List.{List}
use native.Mathlib.Numerals.{add-one}
use lib.ListN.{length, get_or, drop}
use lib.Seq.{drop-cons}
use lib.Ieee.{Float, nan, binary32, add, sub, mul, of_bits}
use Rattle.rounding.specs.Sums.{running, products}
use Rattle.rounding.proofs.Running.{nothing_left}
use Rattle.turbo_distance.specs.Distance.{squared_norm, distance_sum}

-- what is left of a squared norm at index i
abbrev pub norm_from : List Float → ℕ → Float → Float
norm_from xs i acc = running acc (products (drop i xs) (drop i xs))

-- one more square
pub norm-more : (xs : List Float) (i : ℕ) (acc : Float) → i < length xs → norm_from xs i acc ≡ norm_from xs (i + 1) (add binary32 acc (mul binary32 (get_or xs i nan) (get_or xs i nan)))
unfolding running products
norm-more xs i acc h = rw (drop-cons xs i nan, add-one i)

-- none left
pub norm-end : (xs : List Float) (i : ℕ) (acc : Float) → length xs ≤ i → squared_norm xs ≡ norm_from xs i acc → acc ≡ squared_norm xs
norm-end xs i acc h inv = sym (inv ∙ nothing_left (drop i xs) xs i acc h)

-- 'both squared norms, less 2 × score'; 4000_0000 is 2.0
pub sum-of-norms : (query radii : List Float) (score : Float) {n m : Float} → n ≡ squared_norm query → m ≡ squared_norm radii
    → sub binary32 (add binary32 n m) (mul binary32 (of_bits binary32 0x4000_0000) score) ≡ distance_sum query radii score
unfolding distance_sum of_bits
sum-of-norms query radii score e f = rw (e, f)

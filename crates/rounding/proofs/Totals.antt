-- Sums of naturals: of lists joined, of numbers each raised by one amount, of one number repeated, and of numbers weighted by the sizes of floats.
-- Assumes nothing.
use mathlib.Core.Path.{◌≡◌, refl}
use Prim.Native.Nat.{ℕ, zero, suc, ◌+◌, ◌*◌, ◌≤◌, zero-le, suc-le-suc}
use native.Mathlib.Nat.{le_refl}
use native.Mathlib.Omega.{arith}
use mathlib.Core.List.{List, [], ◌∷◌, ◌++◌, map}
use lib.ListN.{length, replicate}
use lib.Ieee.{Float}
use Rattle.rounding.specs.Sums.{sum, weighted}

pub sum-append : (us vs : List ℕ) → sum (us ++ vs) ≡ sum us + sum vs
unfolding sum
sum-append [] vs = omega arith
sum-append (u ∷ us) vs = omega (arith, sum-append us vs)

pub sum-raised : (u : ℕ) (ns : List ℕ) → sum (map (λ (n : ℕ). n + u) ns) ≡ sum ns + length ns * u
unfolding sum
sum-raised u [] = omega arith
sum-raised u (n ∷ ns) = omega (arith, sum-raised u ns)

pub sum-replicate : (n x : ℕ) → sum (replicate n x) ≡ n * x
unfolding sum
sum-replicate zero x = omega arith
sum-replicate (suc n) x = omega (arith, sum-replicate n x)

pub sum-none : {A : Type 0} (xs : List A) → sum (map (λ (x : A). 0) xs) ≡ 0
unfolding sum
sum-none [] = refl
sum-none (x ∷ xs) = omega (arith, sum-none xs)

-- ---- weighted by the sizes of floats
pub length-weighted : (cs : List Float) (ns : List ℕ) → length (weighted cs ns) ≤ length ns
unfolding weighted
length-weighted [] ns = zero-le
length-weighted (c ∷ cs) [] = le_refl 0
length-weighted (c ∷ cs) (n ∷ ns) = suc-le-suc (length-weighted cs ns)

pub weighted-none : (cs vs : List Float) → sum (weighted cs (map (λ (v : Float). 0) vs)) ≡ 0
unfolding weighted sum
weighted-none [] vs = refl
weighted-none (c ∷ cs) [] = refl
weighted-none (c ∷ cs) (v ∷ vs) = omega (arith, weighted-none cs vs)

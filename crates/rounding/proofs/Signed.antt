-- The size of a signed whole number, and when one is at most so large. The factors of a product may change places, and `size` is the least bound.
-- Two numbers that lie further apart than the sum of their errors stand for exact ones in the same order. Assumes nothing.
use Prim.Native.Nat.{ℕ, ◌+◌, ◌-◌, ◌*◌, ◌≤◌}
use native.Mathlib.Nat.{mul-le-mul_left}
use native.Mathlib.Omega.{arith}
use Rattle.rounding.specs.Signed.{Diff, ◌⊠◌, ◌⊙◌, Near, Same, Under}

-- |x|
abbrev pub size : Diff → ℕ
size x = x.plus - x.minus + (x.minus - x.plus)

-- |x| ≤ w
pub record Abs (x : Diff) (w : ℕ) : Type 0 where
  pub above : x.plus ≤ x.minus + w
  pub below : x.minus ≤ x.plus + w

-- ---- the factors of a product
pub mul-same-comm : (x y : Diff) → Same (x ⊠ y) (y ⊠ x)
mul-same-comm x y = omega arith

-- ---- the size
pub size-least : {x : Diff} {w : ℕ} → Abs x w → size x ≤ w
size-least {x} {w} h = omega arith

pub abs-times : (n : ℕ) {x : Diff} {w : ℕ} → Abs x w → Abs (n ⊙ x) (n * w)
abs-times n {x} {w} h = record { above = omega (arith, mul-le-mul_left n h.above); below = omega (arith, mul-le-mul_left n h.below) }

-- ---- the distance
pub near-weaken : {x y : Diff} {v w : ℕ} → v ≤ w → Near x y v → Near x y w
near-weaken {x} {y} {v} {w} l h = record { above = omega (arith, h.above); below = omega (arith, h.below) }

-- ---- order: two numbers further apart than their errors
pub order-kept : {x y x' y' : Diff} {v w : ℕ} → Near x x' v → Near y y' w → Under (v + w) x y → Under 0 x' y'
order-kept {x} {y} {x'} {y'} {v} {w} h g l = omega (arith, h.below, g.above)

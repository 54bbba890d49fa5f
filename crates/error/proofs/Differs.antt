-- Two numbers that are told apart or not, from the test. Assumes nothing.
use Prim.Native.Nat.{ℕ}
use mathlib.Core.Path.{◌≡◌, refl}
use mathlib.Core.Bool.{false}
use borrow.Author.Tests.{eq-eqb, eqb-true, not-false}
use lib.Dec.{eqb}
use Rattle.error.specs.Checks.{differs}

pub differs-not : (a b : ℕ) → a ≡ b → differs a b ≡ false
differs-not a b e = rw (eq-eqb a b e) refl

pub differs-same : (a b : ℕ) → differs a b ≡ false → a ≡ b
differs-same a b e = eqb-true a b (not-false (eqb a b) e)

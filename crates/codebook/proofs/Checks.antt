-- The checks that every call of a codebook makes first: what they refuse the call refuses, and where they pass the rest decides.
-- Assumes nothing.
use Prim.Native.Nat.{ℕ, ◌≤◌}
use mathlib.Core.Path.{◌≡◌}
use mathlib.Core.List.{[], ◌∷◌}
use borrow.Author.Tests.{ltb-false}
use lib.Dec.{ltb}
use lib.Ieee.{Float}
use Rattle.error.specs.Answer.{Answer, value, refused, first}
use Rattle.error.proofs.Chains.{first-refused, first-passed, first_passes, or-false}
use Rattle.codebook.specs.Codebook.{wrong_bounds}
use Rattle.codebook.specs.Inner.{check_of}
use Rattle.error.specs.Checks.{wrong_bits}

-- what a call of a codebook says, by what its first two checks say
module _ {B : Type 0} (bits : ℕ) (lo hi : Float) (b : Answer B) where
  pub check-refused : {n p : ℕ} → check_of bits lo hi ≡ refused n p → first (wrong_bits bits ∷ wrong_bounds lo hi ∷ []) b ≡ refused n p
  unfolding check_of
  check-refused e = first-refused (wrong_bits bits ∷ wrong_bounds lo hi ∷ []) b e

  pub check-passed : check_of bits lo hi ≡ value tt → first (wrong_bits bits ∷ wrong_bounds lo hi ∷ []) b ≡ b
  unfolding check_of
  check-passed e = first-passed (wrong_bits bits ∷ wrong_bounds lo hi ∷ []) b e

-- a codebook that passes has at most 16 bits
pub check-narrow : (bits : ℕ) (lo hi : Float) → check_of bits lo hi ≡ value tt → bits ≤ 16
unfolding check_of
check-narrow bits lo hi e =
    let passed = first_passes (wrong_bits bits ∷ wrong_bounds lo hi ∷ []) tt e in
    ltb-false 16 bits (or-false (ltb bits 1) (ltb 16 bits) passed.0).1

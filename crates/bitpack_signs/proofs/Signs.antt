-- A sign, its bit, and its byte in memory. Assumes nothing.
use Prim.Native.Nat.{ℕ, zero, suc, ◌-◌, ◌^◌, ◌<◌}
use mathlib.Core.Path.{◌≡◌, refl, sym, ap, ◌∙◌}
use mathlib.Core.Bool.{Bool, true, false, cond}
use mathlib.Core.List.{List, map}
use native.Mathlib.Omega.{arith}
use lib.Dec.{eqb}
use lib.IntN.{ℤ, pos, negsuc}
use lib.Signed.{mag}
use lib.ListN.{get_or, get_or-map}
use mir.Syntax.{w8}
use mir.Val.{SFits, of_z, to_z}
use mir.Facts.{to_z-of_z}
use borrow.Author.Tests.{eq-eqb, ne_eqb}
use Rattle.bitpack.specs.Signs.{is_plus, is_minus, bit_of_sign, sign_of_bit}

pub signed_back : (z : ℤ) → mag z < 2 ^ 7 → to_z w8 (of_z w8 z) ≡ z
signed_back z h = to_z-of_z {w = w8} (record { sfits = h })

-- an element of a list of signs, as it is read
pub signed-at : (signs : List ℤ) (i : ℕ) → mag (get_or signs i (pos 0)) < 2 ^ 7 → to_z w8 (of_z w8 (get_or signs i (pos 0))) ≡ get_or signs i (pos 0)
signed-at signs i h = signed_back (get_or signs i (pos 0)) h

pub plus-bits : (z : ℤ) → SFits w8 z → eqb (of_z w8 z) 1 ≡ is_plus z
plus-bits (pos n) h = refl
plus-bits (negsuc n) h = let small = h.sfits in ne_eqb (2 ^ 8 - suc n) 1 (λ e. omega (arith, small, e))

pub minus-bits : (z : ℤ) → SFits w8 z → eqb (of_z w8 z) 255 ≡ is_minus z
minus-bits (pos n) h = let small = h.sfits in ne_eqb n 255 (λ e. omega (arith, small, e))
minus-bits (negsuc zero) h = refl
minus-bits (negsuc (suc n)) h = let small = h.sfits in ne_eqb (2 ^ 8 - suc (suc n)) 255 (λ e. omega (arith, small, e)) ∙ sym (ne_eqb (suc n) 0 (λ e. omega (arith, e)))

pub plus-is : (z : ℤ) → SFits w8 z → of_z w8 z ≡ 1 → is_plus z ≡ true
plus-is z h e = sym (plus-bits z h) ∙ eq-eqb _ _ e

pub plus-is-not : (z : ℤ) → SFits w8 z → (of_z w8 z ≡ 1 → ⊥) → is_plus z ≡ false
plus-is-not z h e = sym (plus-bits z h) ∙ ne_eqb _ _ e

-- a sign is written as it is
pub either-back : (t : Bool) → to_z w8 (of_z w8 (cond t (pos 1) (negsuc 0))) ≡ cond t (pos 1) (negsuc 0)
either-back true = refl
either-back false = refl

pub sign-back : (bit : ℕ) → to_z w8 (of_z w8 (sign_of_bit bit)) ≡ sign_of_bit bit
sign-back bit = either-back (eqb bit 1)

-- the bit at an index
pub bit_at : (signs : List ℤ) (i : ℕ) → get_or (map bit_of_sign signs) i 0 ≡ bit_of_sign (get_or signs i (pos 0))
bit_at signs i = get_or-map bit_of_sign signs i (pos 0)

-- its bit, as it is read
pub bit-read : (signs : List ℤ) (i : ℕ) → mag (get_or signs i (pos 0)) < 2 ^ 7 → bit_of_sign (to_z w8 (of_z w8 (get_or signs i (pos 0)))) ≡ get_or (map bit_of_sign signs) i 0
bit-read signs i h = ap bit_of_sign (signed-at signs i h) ∙ sym (bit_at signs i)

-- Whether a number is rows times columns, from the quotient and the remainder. Assumes nothing.
use Prim.Native.Nat.{ℕ, zero, suc, ◌*◌, ◌/◌, ◌%◌, ◌<◌}
use mathlib.Core.Path.{◌≡◌, refl, sym, ap, ◌∙◌}
use mathlib.Core.Bool.{Bool, true, false}
use native.Mathlib.Nat.{mul-zero, div-add-mod', mul-div_cancel, mul-mod_left, zero-lt-suc}
use native.Mathlib.Omega.{arith}
use borrow.Author.Tests.{eqb-true, eqb-false, eq-eqb, ne_eqb}
use lib.Dec.{eqb}

pub product-empty : (whole rows columns : ℕ) → columns ≡ 0 → eqb whole 0 ≡ eqb whole (rows * columns)
product-empty whole rows columns e = sym (ap (λ (k : ℕ). eqb whole (rows * k)) e ∙ ap (eqb whole) (mul-zero rows))

pub above_zero : (k : ℕ) → (k ≡ 0 → ⊥) → 0 < k
above_zero zero h = absurd (h refl)
above_zero (suc k) h = zero-lt-suc k

pub product-leaves : (whole rows columns : ℕ) → (whole % columns ≡ 0 → ⊥) → false ≡ eqb whole (rows * columns)
product-leaves whole rows columns h = sym (ne_eqb whole (rows * columns) (λ e. h (ap (λ (k : ℕ). k % columns) e ∙ mul-mod_left rows columns)))

pub product-count : (whole rows columns : ℕ) → (columns ≡ 0 → ⊥) → whole % columns ≡ 0 → eqb (whole / columns) rows ≡ eqb whole (rows * columns)
product-count whole rows columns c h = split (eqb (whole / columns) rows) refl
  where
    split : (b : Bool) → eqb (whole / columns) rows ≡ b → eqb (whole / columns) rows ≡ eqb whole (rows * columns)
    split true e =
        let q = ap (λ (k : ℕ). k * columns) (eqb-true (whole / columns) rows e) in
        e ∙ sym (eq-eqb whole (rows * columns) (omega (arith, div-add-mod' whole columns, h, q)))
    split false e =
        e ∙ sym (ne_eqb whole (rows * columns) (λ f. eqb-false (whole / columns) rows e (ap (λ (k : ℕ). k / columns) f ∙ mul-div_cancel rows (above_zero columns c))))

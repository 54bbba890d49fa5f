-- `radius_reading::bad_length` meets its contract: a number is a multiple exactly when the quotient and the remainder say so. Assumes nothing.
use Prim.Native.Nat.{ℕ, ◌*◌, ◌/◌, ◌%◌}
use mathlib.Core.Path.{◌≡◌, refl, sym, ap, ◌∙◌}
use mathlib.Core.Bool.{Bool, true, false, not}
use borrow.Author.Tests.{eq-eqb, ne_eqb, eqb-true, eqb-false}
use native.Mathlib.Nat.{mul-div_cancel_left, div-add-mod}
use native.Mathlib.Omega.{arith}
use lib.Dec.{eqb}
use Rattle.radius_reading.proofs.bad_length.Goals as goal

-- two tests are alike where what they test is
same_test : (a b c d : ℕ) → (a ≡ b → c ≡ d) → (c ≡ d → a ≡ b) → eqb a b ≡ eqb c d
same_test a b c d f g = split (eqb a b) refl
  where
    split : (t : Bool) → eqb a b ≡ t → t ≡ eqb c d
    split true e = sym (eq-eqb c d (f (eqb-true a b e)))
    split false e = sym (ne_eqb c d (λ q. eqb-false a b e (g q)))

pub returns-then-found-width : goal.returns-then-found-width
returns-then-found-width c = let a = c.args in
    ap not (same_test _ _ _ _ (λ e. absurd (c.if-found-width.true e)) (λ e. ap (λ (n : ℕ). n / a.width) e ∙ mul-div_cancel_left a.count c.requires))

pub returns-else-found-width : goal.returns-else-found-width
returns-else-found-width c = let a = c.args in
    let whole = div-add-mod a.found a.width in
    let most = ap (λ (n : ℕ). a.width * n) c.if-found-width.false in
    ap not (same_test (a.found % a.width) 0 a.found (a.width * a.count) (λ e. omega (arith, whole, most, e)) (λ e. omega (arith, whole, most, e)))

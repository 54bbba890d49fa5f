-- A sign of a sketch as a float: -1 and 1 are the floats of that value, and a product with one turns a number or leaves it. Assumes nothing.
use Prim.Native.Nat.{ℕ, suc, ◌+◌, ◌^◌, ◌≤◌, ◌<◌, zero-le, suc-le-suc}
use mathlib.Core.Path.{◌≡◌, refl, sym, ap, ◌∙◌, subst}
use mathlib.Core.Bool.{Bool, true, false, ◌||◌}
use mathlib.Core.List.{List, [], ◌∷◌, map}
use native.Mathlib.Omega.{arith}
use borrow.Author.Tests.{eqb-true, not-false}
use lib.Dec.{eqb}
use lib.IntN.{ℤ, pos, negsuc}
use lib.ListN.{length, get_or, length-map}
use lib.Ieee.{Float, binary32, of_int}
use Rattle.rounding.specs.Signed.{Diff}
use Rattle.float.specs.Constants.{one}
use Rattle.rounding.proofs.Close.{Close, AllClose}
use Rattle.rounding.specs.Sums.{total, products, exact_total, turned_each, sum}
use Rattle.rounding.proofs.Exact.{mul_commutes}
use Rattle.rounding.proofs.Folds.{close-signs, close-total}
use Rattle.rounding.proofs.Lists.{length-products}
use Rattle.bitpack.specs.Signs.{is_minus, bad_sketch_sign}
use Rattle.qjl_residual.specs.Residual.{sign_sum_of}

or-none : (b : Bool) → (b || false) ≡ true → b ≡ true
or-none true e = refl
or-none false e = e

sign-plus : (n : ℕ) → n ≡ 1 → of_int binary32 (pos n) ≡ one false
unfolding of_int
sign-plus n e = rw e refl

sign-minus : (n : ℕ) → n ≡ 0 → of_int binary32 (negsuc n) ≡ one true
unfolding of_int
sign-minus n e = rw e refl

pub sign-value : (z : ℤ) → bad_sketch_sign z ≡ false → of_int binary32 z ≡ one (is_minus z)
sign-value (pos n) e = sign-plus n (eqb-true n 1 (or-none (eqb n 1) (not-false (eqb n 1 || false) e)))
sign-value (negsuc n) e = let f = eqb-true n 0 (not-false (eqb n 0) e) in sign-minus n f ∙ ap (λ (k : ℕ). one (eqb k 0)) (sym f)

-- each of them
pub sign-values : (signs : List ℤ) → ((i : ℕ) → i < length signs → bad_sketch_sign (get_or signs i (pos 0)) ≡ false) → map (of_int binary32) signs ≡ map one (map is_minus signs)
sign-values [] good = refl
sign-values (z ∷ signs) good = cc (sign-value z (good 0 (suc-le-suc zero-le)), sign-values signs (λ i l. good (suc i) (suc-le-suc l)))

pub products-commute : (vs cs : List Float) → products vs cs ≡ products cs vs
unfolding products
products-commute [] [] = refl
products-commute [] (c ∷ cs) = refl
products-commute (v ∷ vs) [] = refl
products-commute (v ∷ vs) (c ∷ cs) = cc (mul_commutes binary32 v c, products-commute vs cs)

-- the sum of sign times value, of values that are close
pub close-sign_sum : {s k : ℕ} {rs bs : List ℕ} {vs : List Float} {xs : List Diff} (signs : List ℤ) → length signs ≡ length vs
    → ((i : ℕ) → i < length signs → bad_sketch_sign (get_or signs i (pos 0)) ≡ false) → k + length vs ≤ 2 ^ 23 → AllClose s k rs bs vs xs
    → Close s (k + length vs) (sum rs) (sum bs) (sign_sum_of signs vs) (exact_total (turned_each (map is_minus signs) xs))
unfolding sign_sum_of
close-sign_sum {s} {k} {rs} {bs} {vs} {xs} signs e good L all =
    let ss = map is_minus signs in
    let long : length ss ≡ length vs = simp length-map e in
    let is : products vs (map one ss) ≡ products (map (of_int binary32) signs) vs =
    products-commute vs (map one ss) ∙ ap (λ (cs : List Float). products cs vs) (sym (sign-values signs good)) in
    let count : length (products vs (map one ss)) ≡ length vs = length-products vs (map one ss) (simp length-map e) in
    subst (λ (n : ℕ). Close s (k + n) (sum rs) (sum bs) (total (products (map (of_int binary32) signs) vs)) (exact_total (turned_each ss xs))) count
    (subst (λ (ps : List Float). Close s (k + length (products vs (map one ss))) (sum rs) (sum bs) (total ps) (exact_total (turned_each ss xs))) is
    (close-total (omega (arith, count)) (close-signs ss long all)))

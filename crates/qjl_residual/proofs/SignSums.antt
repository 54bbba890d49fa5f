-- The sum of sign times projected value, found by a loop, the residual from its factors, and root(PI / 2) as a pattern. Assumes nothing.
use Rattle.std.proofs.Common.{◌≡◌, ℕ, List, [], ◌∷◌, map, ◌⊎◌, inl, inr, refl, sym, ap, ◌∙◌, arith}
use lib.IntN.{ℤ}
use lib.Ieee.{Float, binary32, add, mul, div, of_int, of_bits}
use Rattle.float.specs.Constants.{pi}
use Rattle.float.specs.SquareRoot.{square_root}
use Rattle.rounding.specs.Sums.{running, products}
use Rattle.qjl_residual.specs.Residual.{root, scale_of, sign_sum_of, residual_of}
use Rattle.rounding.proofs.Running.{nothing_left}

-- the root's pattern
pub root_pattern_lem : of_bits binary32 0x3FA0_6C99 ≡ root
unfolding root pi square_root div of_bits
root_pattern_lem = refl

-- the residual from its two factors
pub residual-product : (m : ℕ) (norm : Float) (values : List Float) (signs : List ℤ) {a b : Float} → a ≡ scale_of m norm → b ≡ sign_sum_of signs values → mul binary32 a b ≡ residual_of m norm values signs
unfolding residual_of
residual-product m norm values signs {a} {b} e f = ap (λ (x : Float). mul binary32 x b) e ∙ ap (mul binary32 (scale_of m norm)) f

-- ---- the loop keeps that the sum so far, with what is left of both lists, is the whole
pub sign-more : (z : ℤ) (v acc x : Float) {ss zs : List ℤ} {vs ws : List Float} {whole : Float} → ss ≡ z ∷ zs → vs ≡ v ∷ ws → x ≡ mul binary32 (of_int binary32 z) v
    → whole ≡ running acc (products (map (of_int binary32) ss) vs) → whole ≡ running (add binary32 acc x) (products (map (of_int binary32) zs) ws)
unfolding running products
sign-more z v acc x signs values e inv = inv ∙ rw (signs, values, e)

-- one of the lists is through
pub sign-end : (acc : Float) {ss : List ℤ} {vs : List Float} {whole : Float} → (ss ≡ []) ⊎ (vs ≡ []) → whole ≡ running acc (products (map (of_int binary32) ss) vs) → acc ≡ whole
unfolding running products
sign-end acc (inl e) inv = sym (inv ∙ rw e)
sign-end acc {ss} (inr e) inv = sym (inv ∙ rw e (nothing_left (map (of_int binary32) ss) [] 0 acc (omega arith)))

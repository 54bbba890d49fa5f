-- The rounded product and quotient of two f32: 2 ^ 24 times the error is at most the exact size and 2 ^ 23 units, half a unit being what is lost below the normal range.
-- A quotient is no whole number of units, so its law is stated multiplied by the divisor. Assumes nothing.
use mathlib.Core.Path.{◌≡◌, sym, ap, ◌∙◌, subst}
use Prim.Native.Nat.{ℕ, zero, suc, ◌+◌, ◌*◌, ◌^◌, ◌<◌}
use native.Mathlib.Nat.{mul_comm, mul_assoc, mul-mul-mul_comm, mul-le-mul_right, le_of_mul-le-mul_right, mul-pos, zero-lt-suc, lt_irrefl}
use native.Mathlib.Omega.{arith}
use mathlib.Core.Bool.{Bool, true, false, cond}
use lib.IntN.{ℤ}
use lib.Dec.{T, eqb, eqb-suc-zero}
use lib.Ieee.{Float, nan, inf, fin, binary32, unlike, up, down, mul, div, round, fits}
use lib.Ieee.Fits.{up_pos, down_pos}
use lib.Ieee.Scale.{finite}
use Rattle.rounding.specs.Signed.{Diff, signed, ◌⊠◌, ◌⊙◌, Near}
use Rattle.rounding.specs.Value.{val}
use Rattle.float.specs.Units.{unit, mag}
use Rattle.rounding.proofs.Finite.{mul-finite, div-finite}
use Rattle.rounding.proofs.Nearest.{Apart, rounded, rounded-error}
use Rattle.rounding.proofs.Values.{mag-exact, round_val}

-- ---- from the fraction to units: g * c near n, with n * u = p * D and c * u = b * D, is g * b near p
fraction-near : (c n u p b D : ℕ) → 0 < c → 0 < D → n * u ≡ p * D → c * u ≡ b * D → Apart (2 ^ 24) (rounded 24 n c * b) p (p + 2 ^ 23 * b)
fraction-near c n u p b D P C e f =
    let g = rounded 24 n c in
    let h = rounded-error n c P in
    let x : g * c * u ≡ g * b * D = mul_assoc g c u ∙ ap (λ (z : ℕ). g * z) f ∙ sym (mul_assoc g b D) in
    record {
      above = le_of_mul-le-mul_right {m = 2 ^ 24 * (g * b)} {n = 2 ^ 24 * p + (p + 2 ^ 23 * b)} (omega (arith, mul-le-mul_right u h.above)) C;
      below = le_of_mul-le-mul_right {m = 2 ^ 24 * p} {n = 2 ^ 24 * (g * b) + (p + 2 ^ 23 * b)} (omega (arith, mul-le-mul_right u h.below)) C;
    }

-- ---- products
pub product-scaled : (m e d n M N : ℕ) → M * e ≡ m * unit → N * d ≡ n * unit → m * n * unit * unit ≡ M * N * (e * d)
product-scaled m e d n M N p q =
    mul_assoc (m * n) unit unit ∙ mul-mul-mul_comm m n unit unit ∙ sym (ap (λ (x : ℕ). x * (n * unit)) p) ∙ sym (ap (λ (x : ℕ). M * e * x) q) ∙ mul-mul-mul_comm M e N d

signed_product : (s t : Bool) (A B g w : ℕ) → Apart (2 ^ 24) (g * unit) (A * B) w → Near (2 ^ 24 ⊙ (unit ⊙ signed (unlike s t) g)) (2 ^ 24 ⊙ (signed s A ⊠ signed t B)) w
signed_product false false A B g w h = record { above = omega (arith, h.above); below = omega (arith, h.below) }
signed_product false true A B g w h = record { above = omega (arith, h.below); below = omega (arith, h.above) }
signed_product true false A B g w h = record { above = omega (arith, h.below); below = omega (arith, h.above) }
signed_product true true A B g w h = record { above = omega (arith, h.above); below = omega (arith, h.below) }

pub mul-near : (x y : Float) → T (fits binary32 x) → T (fits binary32 y) → T (finite (mul binary32 x y))
    → Near (2 ^ 24 ⊙ (unit ⊙ val (mul binary32 x y))) (2 ^ 24 ⊙ (val x ⊠ val y)) (mag x * mag y + 2 ^ 23 * unit)
mul-near nan y h k t = absurd (mul-finite binary32 nan y t).0
mul-near (inf s) y h k t = absurd (mul-finite binary32 (inf s) y t).0
mul-near (fin s m e) nan h k t = absurd (mul-finite binary32 (fin s m e) nan t).1
mul-near (fin s m e) (inf u) h k t = absurd (mul-finite binary32 (fin s m e) (inf u) t).1
mul-near (fin s m e) (fin u n d) h k t = unfold mul val in
    let num = m * up e * (n * up d) in
    let c = down e * down d in
    let A = mag (fin s m e) in
    let B = mag (fin u n d) in
    let g = rounded 24 (num * unit) c in
    subst (λ (v : Diff). Near (2 ^ 24 ⊙ (unit ⊙ v)) (2 ^ 24 ⊙ (signed s A ⊠ signed u B)) (A * B + 2 ^ 23 * unit)) (sym (round_val (unlike s u) num c t))
    (signed_product s u A B g (A * B + 2 ^ 23 * unit)
    (fraction-near c (num * unit) unit (A * B) unit c (mul-pos (down_pos e) (down_pos d)) (mul-pos (down_pos e) (down_pos d))
    (product-scaled (m * up e) (down e) (down d) (n * up d) A B (mag-exact s m e h) (mag-exact u n d k)) (mul_comm c unit)))

-- ---- quotients
signed_quotient : (s t : Bool) (A B g w : ℕ) → Apart (2 ^ 24) (g * B) (A * unit) w → Near (2 ^ 24 ⊙ (signed (unlike s t) g ⊠ signed t B)) (2 ^ 24 ⊙ (unit ⊙ signed s A)) w
signed_quotient false false A B g w h = record { above = omega (arith, h.above); below = omega (arith, h.below) }
signed_quotient false true A B g w h = record { above = omega (arith, h.above); below = omega (arith, h.below) }
signed_quotient true false A B g w h = record { above = omega (arith, h.below); below = omega (arith, h.above) }
signed_quotient true true A B g w h = record { above = omega (arith, h.below); below = omega (arith, h.above) }

numerator-scaled : (m e d M : ℕ) → M * e ≡ m * unit → m * d * unit * unit ≡ M * unit * (e * d)
numerator-scaled m e d M h = omega (arith, ap (λ (x : ℕ). x * (d * unit)) h)

denominator-scaled : (n d e N : ℕ) → N * d ≡ n * unit → n * e * unit ≡ N * (e * d)
denominator-scaled n d e N h = omega (arith, ap (λ (x : ℕ). x * e) h)

pub div_is : (s : Bool) (m : ℕ) (e : ℤ) (t : Bool) (n : ℕ) (d : ℤ)
    → div binary32 (fin s m e) (fin t (suc n) d) ≡ round binary32 (unlike s t) (m * up e * down d) (suc n * up d * down e)
unfolding div
div_is s m e t n d =
    ap (λ (b : Bool). cond b (cond (eqb m 0) nan (inf (unlike s t))) (round binary32 (unlike s t) (m * up e * down d) (suc n * up d * down e))) (eqb-suc-zero n)

-- a rounded quotient by a number other than 0
round-quotient : (s : Bool) (m : ℕ) (e : ℤ) (t : Bool) (n : ℕ) (d : ℤ) → T (fits binary32 (fin s m e)) → T (fits binary32 (fin t (suc n) d))
    → T (finite (round binary32 (unlike s t) (m * up e * down d) (suc n * up d * down e)))
    → Near (2 ^ 24 ⊙ (val (round binary32 (unlike s t) (m * up e * down d) (suc n * up d * down e)) ⊠ val (fin t (suc n) d))) (2 ^ 24 ⊙ (unit ⊙ val (fin s m e)))
    (mag (fin s m e) * unit + 2 ^ 23 * mag (fin t (suc n) d))
round-quotient s m e t n d h k z = unfold val in
    let num = m * up e * down d in
    let den = suc n * up d * down e in
    let A = mag (fin s m e) in
    let B = mag (fin t (suc n) d) in
    subst (λ (v : Diff). Near (2 ^ 24 ⊙ (v ⊠ signed t B)) (2 ^ 24 ⊙ (unit ⊙ signed s A)) (A * unit + 2 ^ 23 * B)) (sym (round_val (unlike s t) num den z))
    (signed_quotient s t A B (rounded 24 (num * unit) den) (A * unit + 2 ^ 23 * B)
    (fraction-near den (num * unit) unit (A * unit) B (down e * down d) (mul-pos (mul-pos (zero-lt-suc n) (up_pos d)) (down_pos e)) (mul-pos (down_pos e) (down_pos d))
    (numerator-scaled (m * up e) (down e) (down d) A (mag-exact s m e h)) (denominator-scaled (suc n * up d) (down d) (down e) B (mag-exact t (suc n) d k))))

pub div-near : (x y : Float) → T (fits binary32 x) → T (fits binary32 y) → T (finite y) → T (finite (div binary32 x y))
    → Near (2 ^ 24 ⊙ (val (div binary32 x y) ⊠ val y)) (2 ^ 24 ⊙ (unit ⊙ val x)) (mag x * unit + 2 ^ 23 * mag y)
div-near nan y h k f t = absurd (div-finite binary32 nan y t).0
div-near (inf s) y h k f t = absurd (div-finite binary32 (inf s) y t).0
div-near (fin s m e) nan h k f t = absurd f
div-near (fin s m e) (inf u) h k f t = absurd f
div-near (fin s m e) (fin u zero d) h k f t = absurd (lt_irrefl 0 (div-finite binary32 (fin s m e) (fin u zero d) t).1)
div-near (fin s m e) (fin u (suc n) d) h k f t =
    let is = div_is s m e u n d in
    subst (λ (v : Float). Near (2 ^ 24 ⊙ (val v ⊠ val (fin u (suc n) d))) (2 ^ 24 ⊙ (unit ⊙ val (fin s m e))) (mag (fin s m e) * unit + 2 ^ 23 * mag (fin u (suc n) d)))
    (sym is) (round-quotient s m e u n d h k (subst (λ (v : Float). T (finite v)) is t))

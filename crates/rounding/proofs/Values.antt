-- The value of an f32 as a whole number of units: it is exact, a finite result of `round` has the rounded fraction for its value,
-- and `round` changes nothing at a fraction that is the value of an f32. Assumes nothing.
use mathlib.Core.Path.{◌≡◌, refl, sym, ap, ◌∙◌, subst}
use Prim.Native.Nat.{ℕ, zero, suc, ◌+◌, ◌-◌, ◌*◌, ◌/◌, ◌%◌, ◌^◌, ◌≤◌, ◌<◌}
use native.Mathlib.Nat.{le_of_suc-le-suc, lt_of_not-le, not-le_of_lt, zero-mul, one-mul, mul-one, mul_assoc, mul_comm, mul_right_comm, mul-div_cancel, zero-div, eq_of_mul-eq-mul_right, lt_of_mul-lt-mul_right, mul-lt-mul_of_pos_right}
use native.Mathlib.Omega.{arith}
use mathlib.Core.Bool.{Bool, true, false, cond, ◌&&◌}
use lib.IntN.{ℤ, pos, negsuc}
use lib.Dec.{T, ltb, leb, eqb, ltb→lt, leb→le}
use lib.Pow.{pow-add, pow_pos, pow-lt}
use lib.Ieee.{Float, nan, inf, fin, binary32, low, emax, prec, up, down, round, units, odd, fits}
use lib.Ieee.Digits.{back}
use lib.Ieee.Exact.{HasValue, units_val, round_exact}
use lib.Ieee.Fits.{down_pos, round_is, and_l, and_r}
use lib.Ieee.Order.{drop, kept}
use lib.Ieee.Scale.{finite}
use Rattle.rounding.specs.Signed.{signed, nought}
use Rattle.rounding.proofs.Signed.{Abs}
use Rattle.rounding.specs.Value.{val}
use Rattle.rounding.proofs.Nearest.{rounded}
use Rattle.float.specs.Units.{unit, mag}
use Rattle.float.proofs.Units.{mag-of-value, mag-zero}

pub unit-is : 2 ^ low binary32 ≡ unit
unfolding unit
unit-is = refl

pub unit-large : 2 ^ 47 ≤ unit
unfolding unit
unit-large = leb→le (2 ^ 47) unit tt

pub unit-pos : 0 < unit
unfolding unit
unit-pos = pow_pos 149

-- ---- the unit divides: 2 ^ e is a whole number of them
pow-order : (i j : ℕ) → 2 ^ i ≤ 2 ^ j → i ≤ j
pow-order i j h = le_of_suc-le-suc (lt_of_not-le (λ (g : suc j ≤ i). not-le_of_lt (pow-lt g) h))

-- 2 ^ e as a power of units
steps : ℕ → ℤ → ℕ
steps l (pos k) = k + l
steps l (negsuc k) = l - suc k

steps-val : (l : ℕ) (e : ℤ) → down e ≤ 2 ^ l → up e * 2 ^ l ≡ 2 ^ steps l e * down e
unfolding steps
steps-val l (pos k) h = sym (pow-add 2 k l) ∙ sym (mul-one (2 ^ (k + l)))
steps-val l (negsuc k) h =
    one-mul (2 ^ l) ∙ ap (λ (x : ℕ). 2 ^ x) (sym (back l (suc k) (pow-order (suc k) l h))) ∙ pow-add 2 (l - suc k) (suc k)

-- what an f32 above 0 in size says of its digits and its exponent
below-prec : (s : Bool) (m : ℕ) (e : ℤ) → T (fits binary32 (fin s (suc m) e)) → suc m < 2 ^ prec binary32
unfolding fits
below-prec s m e t =
    let a : Bool = eqb (suc m % 2) 1 in
    let b : Bool = ltb (suc m) (2 ^ 24) in
    let c : Bool = leb (down e) (2 ^ 149) in
    let d : Bool = ltb (suc m * up e) (2 ^ 128 * down e) in
    ltb→lt (suc m) (2 ^ 24) (and_r a b (and_l (a && b) c (and_l (a && b && c) d t)))

down_fits : (s : Bool) (m : ℕ) (e : ℤ) → T (fits binary32 (fin s (suc m) e)) → down e ≤ 2 ^ low binary32
unfolding fits
down_fits s m e t =
    let a : Bool = eqb (suc m % 2) 1 in
    let b : Bool = ltb (suc m) (2 ^ 24) in
    let c : Bool = leb (down e) (2 ^ 149) in
    let d : Bool = ltb (suc m * up e) (2 ^ 128 * down e) in
    leb→le (down e) (2 ^ 149) (and_r (a && b) c (and_l (a && b && c) d t))

below_top : (s : Bool) (m : ℕ) (e : ℤ) → T (fits binary32 (fin s (suc m) e)) → suc m * up e < 2 ^ suc (emax binary32) * down e
unfolding fits
below_top s m e t =
    let a : Bool = eqb (suc m % 2) 1 in
    let b : Bool = ltb (suc m) (2 ^ 24) in
    let c : Bool = leb (down e) (2 ^ 149) in
    let d : Bool = ltb (suc m * up e) (2 ^ 128 * down e) in
    ltb→lt (suc m * up e) (2 ^ 128 * down e) (and_r (a && b && c) d t)

-- m * 2 ^ e is m * 2 ^ j units
in-units : (m : ℕ) (e : ℤ) → down e ≤ 2 ^ low binary32 → m * up e * unit ≡ m * 2 ^ steps (low binary32) e * down e
in-units m e h =
    ap (λ (x : ℕ). m * up e * x) (sym unit-is) ∙ mul_assoc m (up e) (2 ^ low binary32) ∙ ap (λ (x : ℕ). m * x) (steps-val (low binary32) e h)
    ∙ sym (mul_assoc m (2 ^ steps (low binary32) e) (down e))

-- ---- the value of an f32 is exact
pub mag-exact : (s : Bool) (m : ℕ) (e : ℤ) → T (fits binary32 (fin s m e)) → mag (fin s m e) * down e ≡ m * up e * unit
unfolding mag
mag-exact s zero e h = simp (zero-mul, zero-div)
mag-exact s (suc m) e h =
    let j : ℕ = steps (low binary32) e in
    let x : suc m * up e * unit ≡ suc m * 2 ^ j * down e = in-units (suc m) e (down_fits s m e h) in
    ap (λ (y : ℕ). y / down e * down e) x ∙ ap (λ (y : ℕ). y * down e) (mul-div_cancel (suc m * 2 ^ j) (down_pos e)) ∙ sym x

pub val-of-value : (x : Float) (s : Bool) (a : ℕ) → HasValue x s a unit → val x ≡ signed s a
unfolding val
val-of-value nan s a h = absurd h
val-of-value (inf t) s a h = absurd h
val-of-value (fin t m e) s a h = ap (λ (y : Bool). signed y (mag (fin t m e))) h.0 ∙ ap (λ (y : ℕ). signed s y) (mag-of-value (fin t m e) s a h)

pub finite-of-value : (x : Float) (s : Bool) (a c : ℕ) → HasValue x s a c → T (finite x)
finite-of-value nan s a c h = h
finite-of-value (inf t) s a c h = h
finite-of-value (fin t m e) s a c h = tt

signed-sized : (s : Bool) (n : ℕ) → Abs (signed s n) n
signed-sized false n = record { above = omega arith; below = omega arith }
signed-sized true n = record { above = omega arith; below = omega arith }

pub val-sized : (x : Float) → Abs (val x) (mag x)
unfolding val
val-sized nan = record { above = omega arith; below = omega arith }
val-sized (inf s) = record { above = omega arith; below = omega arith }
val-sized (fin s m e) = signed-sized s (mag (fin s m e))

-- the value of any float is its size with a sign
pub val-signed : (x : Float) → (s : Bool) × (val x ≡ signed s (mag x))
unfolding val mag
val-signed nan = (false, refl)
val-signed (inf s) = (false, refl)
val-signed (fin s m e) = (s, refl)

pub val-zero : (s : Bool) (e : ℤ) → val (fin s 0 e) ≡ nought
unfolding val
val-zero false e = ap (λ (n : ℕ). signed false n) (mag-zero false e)
val-zero true e = ap (λ (n : ℕ). signed true n) (mag-zero true e)

-- ---- what `round` makes

units_under : (s : Bool) (q k : ℕ) → T (finite (units binary32 s q k)) → q * 2 ^ k < 2 ^ (low binary32 + suc (emax binary32))
unfolding units
units_under s q k = go (ltb (q * 2 ^ k) (2 ^ (low binary32 + suc (emax binary32)))) (ltb→lt (q * 2 ^ k) (2 ^ (low binary32 + suc (emax binary32))))
  where
    go : (b : Bool) → (T b → q * 2 ^ k < 2 ^ (low binary32 + suc (emax binary32))) → T (finite (cond b (odd (suc (prec binary32)) s q k (low binary32)) (inf s)))
        → q * 2 ^ k < 2 ^ (low binary32 + suc (emax binary32))
    go true h t = h tt
    go false h t = absurd t

-- a finite result is the rounded fraction, in units
round-value : (s : Bool) (num den : ℕ) → T (finite (round binary32 s num den)) → HasValue (round binary32 s num den) s (rounded 24 (num * unit) den) unit
round-value s num den t =
    let z = round binary32 s num den in
    let n = num * 2 ^ low binary32 in
    let v : HasValue (units binary32 s (kept 24 n den) (drop 24 n den)) s (rounded 24 n den) (2 ^ low binary32) =
    units_val binary32 s (kept 24 n den) (drop 24 n den) (units_under s (kept 24 n den) (drop 24 n den) (subst (λ (y : Float). T (finite y)) (round_is binary32 s num den) t)) in
    subst (λ (l : ℕ). HasValue z s (rounded 24 (num * l) den) l) unit-is
    (subst (λ (y : Float). HasValue y s (rounded 24 n den) (2 ^ low binary32)) (sym (round_is binary32 s num den)) v)

pub round_val : (s : Bool) (num den : ℕ) → T (finite (round binary32 s num den)) → val (round binary32 s num den) ≡ signed s (rounded 24 (num * unit) den)
round_val s num den t = val-of-value (round binary32 s num den) s (rounded 24 (num * unit) den) (round-value s num den t)

-- a value as another fraction of the same size
pub rescaled : (x : Float) (s : Bool) (num den a c : ℕ) → 0 < den → num * c ≡ a * den → HasValue x s num den → HasValue x s a c
rescaled nan s num den a c D e h = h
rescaled (inf t) s num den a c D e h = h
rescaled (fin t m e) s num den a c D p h = (h.0, eq_of_mul-eq-mul_right den D (m * up e * c) (a * down e) (over (m * up e) (down e) h.1))
  where
    over : (u d : ℕ) → u * den ≡ num * d → u * c * den ≡ a * d * den
    over u d q = mul_right_comm u c den ∙ ap (λ (y : ℕ). y * c) q ∙ mul_right_comm num d c ∙ ap (λ (y : ℕ). y * d) p ∙ mul_right_comm a den d

below-overflow : (s : Bool) (m : ℕ) (e : ℤ) → T (fits binary32 (fin s (suc m) e)) → suc m * 2 ^ steps (low binary32) e < 2 ^ (low binary32 + suc (emax binary32))
below-overflow s m e h =
    let top = 2 ^ suc (emax binary32) in
    let x : suc m * up e * unit < top * down e * unit = mul-lt-mul_of_pos_right (below_top s m e h) unit-pos in
    let y : top * down e * unit ≡ 2 ^ (low binary32 + suc (emax binary32)) * down e =
    mul_right_comm top (down e) unit ∙ ap (λ (z : ℕ). z * down e) (ap (λ (l : ℕ). top * l) (sym unit-is) ∙ mul_comm top (2 ^ low binary32) ∙ sym (pow-add 2 (low binary32) (suc (emax binary32)))) in
    lt_of_mul-lt-mul_right (down e)
    (subst (λ (z : ℕ). z < 2 ^ (low binary32 + suc (emax binary32)) * down e) (in-units (suc m) e (down_fits s m e h))
    (subst (λ (z : ℕ). suc m * up e * unit < z) y x))

mag-power : (s : Bool) (m : ℕ) (e : ℤ) → T (fits binary32 (fin s (suc m) e)) → mag (fin s (suc m) e) ≡ suc m * 2 ^ steps (low binary32) e
unfolding mag
mag-power s m e h = ap (λ (y : ℕ). y / down e) (in-units (suc m) e (down_fits s m e h)) ∙ mul-div_cancel (suc m * 2 ^ steps (low binary32) e) (down_pos e)

-- the size of every f32 is below the overflow
pub mag-under : (x : Float) → T (fits binary32 x) → mag x < 2 ^ (low binary32 + suc (emax binary32))
unfolding mag
mag-under nan h = pow_pos 277
mag-under (inf s) h = pow_pos 277
mag-under (fin s zero e) h = rw (mag-zero s e) (pow_pos 277)
mag-under (fin s (suc m) e) h = rw (mag-power s m e h) (below-overflow s m e h)

-- a fraction that is the value of an f32 is kept as it is
pub round_keeps : (x : Float) (s : Bool) (num den : ℕ) → T (fits binary32 x) → T (finite x) → 0 < den → num * unit ≡ mag x * den → HasValue (round binary32 s num den) s (mag x) unit
round_keeps nan s num den h t D p = absurd t
round_keeps (inf u) s num den h t D p = absurd t
round_keeps (fin u zero e) s num den h t D p =
    rescaled (round binary32 s num den) s num den (mag (fin u 0 e)) unit D p
    (round_exact binary32 s num den 0 0 D (pow_pos 24) (pow_pos 277)
    (ap (λ (l : ℕ). num * l) unit-is ∙ p ∙ ap (λ (y : ℕ). y * den) (mag-zero u e)))
round_keeps (fin u (suc m) e) s num den h t D p =
    let j : ℕ = steps (low binary32) e in
    rescaled (round binary32 s num den) s num den (mag (fin u (suc m) e)) unit D p
    (round_exact binary32 s num den (suc m) j D (below-prec u m e h) (below-overflow u m e h)
    (ap (λ (l : ℕ). num * l) unit-is ∙ p ∙ ap (λ (y : ℕ). y * den) (mag-power u m e h)))

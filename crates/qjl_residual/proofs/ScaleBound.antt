-- The scale times the projections is at most twice the norm, where that is rounded up to a whole number that is at least 1: K × m ≤ 2 w for every m up to 2^24. It is
-- root(PI / 2) times the norm, rounded, over m, rounded, and a quotient times its divisor is near its dividend. With it the absolute error of a residual is at most
-- 2 n w + 1 units. Assumes nothing.
use Prim.Native.Nat.{ℕ, ◌+◌, ◌*◌, ◌-◌, ◌/◌, ◌^◌, ◌≤◌, ◌<◌}
use mathlib.Core.Path.{◌≡◌, refl, sym, ap, ◌∙◌, subst}
use mathlib.Core.Logic.{◌⊎◌, inl, inr}
use mathlib.Core.Bool.{Bool, true, false}
use mathlib.Core.List.{List}
use native.Mathlib.Nat.{le_refl, le_of_eq, le_trans, le-max_left, le-max_right, lt-div-mul-add, mul_assoc, mul-le-mul, mul-le-mul_right, le_of_mul-le-mul_right, zero-mul, one-mul}
use native.Mathlib.Omega.{arith}
use lib.Dec.{T, leb→le}
use lib.IntN.{ℤ, pos}
use lib.ListN.{length, get_or}
use lib.Ieee.{Float, nan, inf, fin, binary32, mul, div, of_int, of_bits, fits}
use lib.Ieee.Fits.{mul-fits}
use lib.Ieee.Scale.{finite}
use Rattle.rounding.specs.Signed.{Diff, Near, signed, ◌⊠◌, ◌⊙◌}
use Rattle.rounding.specs.Value.{val}
use Rattle.float.specs.Units.{unit, mag}
use Rattle.rounding.proofs.Close.{Close, AllFit}
use Rattle.rounding.proofs.Bounds.{size-times}
use Rattle.rounding.proofs.Calculus.{val-product-size, close-weaken}
use Rattle.rounding.proofs.Product.{mul-near, div-near}
use Rattle.rounding.proofs.Signed.{size, size-least, abs-times, Abs}
use Rattle.rounding.proofs.Positive.{worth-mag, whole-worth}
use Rattle.rounding.proofs.Values.{val-sized, val-signed, unit-pos, unit-large}
use Rattle.rounding.specs.Rows.{projected}
use Rattle.bitpack.specs.Signs.{bad_sketch_sign}
use Rattle.qjl_residual.specs.Residual.{root, scale_of, residual_of}
use Rattle.qjl_residual.specs.Exact.{exact_residual, residual_size, whole_norm}
use Rattle.qjl_residual.proofs.SignSums.{root_pattern_lem}
use Rattle.qjl_residual.proofs.ErrorBound.{close-residual}

-- ---- a product, and a quotient times its divisor
abs-near : {x y : Diff} {c w : ℕ} → Near x y w → Abs y c → Abs x (c + w)
abs-near {x} {y} {c} {w} n h = record { above = omega (arith, n.above, h.above); below = omega (arith, n.below, h.below) }

sized-by : (x : Diff) (w : ℕ) → size x ≡ w → Abs x w
sized-by x w e = record { above = omega arith; below = omega arith }

signed-most : (s : Bool) (k a w : ℕ) → Abs (2 ^ 24 ⊙ (k ⊙ signed s a)) w → 2 ^ 24 * (k * a) ≤ w
signed-most false k a w h = omega (arith, h.above)
signed-most true k a w h = omega (arith, h.below)

rounded-product-most : (x y : Float) → T (fits binary32 x) → T (fits binary32 y) → T (finite (mul binary32 x y))
    → 2 ^ 24 * (unit * mag (mul binary32 x y)) ≤ 2 ^ 24 * (mag x * mag y) + (mag x * mag y + 2 ^ 23 * unit)
rounded-product-most x y f g t =
    let is = val-signed (mul binary32 x y) in
    let exact = sized-by (val x ⊠ val y) (mag x * mag y) (val-product-size x y) in
    let most = abs-near (mul-near x y f g t) (abs-times (2 ^ 24) exact) in
    signed-most is.0 unit (mag (mul binary32 x y)) _ (subst (λ (z : Diff). Abs (2 ^ 24 ⊙ (unit ⊙ z)) (2 ^ 24 * (mag x * mag y) + (mag x * mag y + 2 ^ 23 * unit))) is.1 most)

quotient-most : (x y : Float) → T (fits binary32 x) → T (fits binary32 y) → T (finite y) → T (finite (div binary32 x y))
    → 2 ^ 24 * (mag (div binary32 x y) * mag y) ≤ 2 ^ 24 * (unit * mag x) + (mag x * unit + 2 ^ 23 * mag y)
quotient-most x y f g h t =
    let z = val (div binary32 x y) ⊠ val y in
    let most = size-least (abs-near (div-near x y f g h t) (abs-times (2 ^ 24) (abs-times unit (val-sized x)))) in
    le_trans (le_of_eq (ap (λ (k : ℕ). 2 ^ 24 * k) (sym (val-product-size (div binary32 x y) y)) ∙ size-times (2 ^ 24) z)) most

mag-either : (x : Float) → T (finite x) ⊎ (mag x ≡ 0)
unfolding mag
mag-either nan = inr refl
mag-either (inf s) = inr refl
mag-either (fin s m e) = inl tt

-- ---- the norm as a whole number
ceiling-most : (a u : ℕ) → 0 < u → a ≤ (a + (u - 1)) / u * u
ceiling-most a u p = let above = lt-div-mul-add {a = a + (u - 1)} {b = u} p in omega arith

pub whole-least : (norm : Float) → 1 ≤ whole_norm norm
unfolding whole_norm
whole-least norm = le-max_left 1 ((mag norm + (unit - 1)) / unit)

pub whole-most : (norm : Float) → mag norm ≤ whole_norm norm * unit
unfolding whole_norm
whole-most norm = le_trans (ceiling-most (mag norm) unit unit-pos) (mul-le-mul_right unit (le-max_right 1 ((mag norm + (unit - 1)) / unit)))

whole-large : (norm : Float) → 2 ^ 47 ≤ whole_norm norm * unit
whole-large norm = le_trans unit-large (le_trans (le_of_eq (sym (one-mul unit))) (mul-le-mul_right unit (whole-least norm)))

-- ---- root(PI / 2) is at most 11 / 8, and its product with the norm at most 3 w / 2
root-fits : T (fits binary32 root)
unfolding of_bits fits
root-fits = subst (λ (r : Float). T (fits binary32 r)) root_pattern_lem tt

root-most : 8 * mag root ≤ 11 * unit
unfolding mag unit of_bits
root-most =
    subst (λ (r : Float). 8 * mag r ≤ 11 * unit) root_pattern_lem
    (leb→le (8 * mag (of_bits binary32 0x3FA0_6C99)) (11 * unit) tt)

multiplied : (x r k w u : ℕ) → 0 < u → 2 ^ 24 * (u * x) ≤ 2 ^ 24 * (r * k) + (r * k + 2 ^ 23 * u) → 8 * r ≤ 11 * u → k ≤ w → 8 * (2 ^ 24 * x) ≤ (2 ^ 24 + 1) * (11 * w) + 8 * 2 ^ 23
multiplied x r k w u p h a b =
    let most : 8 * (r * k) ≤ 11 * (u * w) = le_trans (le_of_eq (sym (mul_assoc 8 r k))) (le_trans (mul-le-mul a b) (le_of_eq (mul_assoc 11 u w))) in
    le_of_mul-le-mul_right {m = 8 * (2 ^ 24 * x)} {n = (2 ^ 24 + 1) * (11 * w) + 8 * 2 ^ 23} (omega (arith, h, most)) p

half-more : (x w : ℕ) → 8 * (2 ^ 24 * x) ≤ (2 ^ 24 + 1) * (11 * w) + 8 * 2 ^ 23 → 2 ^ 47 ≤ w → 2 * x ≤ 3 * w
half-more x w h b = omega arith

divided : (k m x u : ℕ) → 0 < u → 2 ^ 24 * (k * (m * u)) ≤ 2 ^ 24 * (u * x) + (x * u + 2 ^ 23 * (m * u)) → 2 ^ 24 * (k * m) ≤ 2 ^ 24 * x + (x + 2 ^ 23 * m)
divided k m x u p h = le_of_mul-le-mul_right {m = 2 ^ 24 * (k * m)} {n = 2 ^ 24 * x + (x + 2 ^ 23 * m)} (omega (arith, h)) p

together : (p m x w : ℕ) → 2 ^ 24 * p ≤ 2 ^ 24 * x + (x + 2 ^ 23 * m) → m ≤ 2 ^ 24 → 2 * x ≤ 3 * w → 2 ^ 47 ≤ w → p ≤ 2 * w
together p m x w h l r b = omega arith

module _ (norm : Float) (fit : T (fits binary32 norm)) where
  rooted-most : 2 * mag (mul binary32 root norm) ≤ 3 * (whole_norm norm * unit)
  rooted-most = split (mag-either (mul binary32 root norm))
    where
      split : T (finite (mul binary32 root norm)) ⊎ (mag (mul binary32 root norm) ≡ 0) → 2 * mag (mul binary32 root norm) ≤ 3 * (whole_norm norm * unit)
      split (inl t) =
          half-more (mag (mul binary32 root norm)) (whole_norm norm * unit)
          (multiplied (mag (mul binary32 root norm)) (mag root) (mag norm) (whole_norm norm * unit) unit unit-pos (rounded-product-most root norm root-fits fit t) root-most (whole-most norm)) (whole-large norm)
      split (inr e) = omega (arith, e)

  -- K × m ≤ 2 w
  pub scale-most : (m : ℕ) → m ≤ 2 ^ 24 → mag (scale_of m norm) * m ≤ 2 * (whole_norm norm * unit)
  unfolding scale_of
  scale-most m l = split (mag-either (div binary32 (mul binary32 root norm) (of_int binary32 (pos m))))
    where
      split : T (finite (div binary32 (mul binary32 root norm) (of_int binary32 (pos m)))) ⊎ (mag (div binary32 (mul binary32 root norm) (of_int binary32 (pos m))) ≡ 0)
          → mag (div binary32 (mul binary32 root norm) (of_int binary32 (pos m))) * m ≤ 2 * (whole_norm norm * unit)
      split (inl t) =
          let x = mul binary32 root norm in
          let y = of_int binary32 (pos m) in
          let whole = whole-worth m l in
          let h = quotient-most x y (mul-fits binary32 root norm) whole.fit whole.number t in
          together (mag (div binary32 x y) * m) m (mag x) (whole_norm norm * unit) (divided (mag (div binary32 x y)) m (mag x) unit unit-pos (rw (worth-mag whole) at h)) l rooted-most (whole-large norm)
      split (inr e) = omega (arith, ap (λ (k : ℕ). k * m) e, zero-mul m)

-- ---- the residual: its absolute error is at most 2 n w + 1 units of its scale
module _ (n m : ℕ) (matrix query : List Float) (signs : List ℤ) (f : AllFit matrix) (g : AllFit query) (L : n + m + 1 ≤ 2 ^ 23) (long : length signs ≡ m)
    (good : (i : ℕ) → i < length signs → bad_sketch_sign (get_or signs i (pos 0)) ≡ false) where
  pub close-norm-residual : (norm : Float) → T (fits binary32 norm)
      → Close (unit * unit) (n + m + 2) (2 * n * whole_norm norm * (unit * unit) + unit * unit) (residual_size (scale_of m norm) n m matrix query)
      (residual_of m norm (projected n m matrix query) signs) (exact_residual (scale_of m norm) n m matrix query signs)
  close-norm-residual norm fit =
      let most = mul-le-mul_right (n * unit) (scale-most norm fit m (omega arith)) in
      close-weaken (le_refl _) (omega (arith, most)) (le_refl _) (close-residual n m matrix query signs f g L long good norm)

-- The error calculus on floats: what each step of f32 arithmetic does to `Close`. A rounded sum or difference takes k to k + 1 and adds the r's and the a's;
-- a rounded product with a float c takes k to k + 1, a to |c| * a, and r to |c| * r and a unit more; a product with 1 or -1 changes nothing.
-- A result that is not finite is close to anything, so no step asks whether its operands are finite. Assumes nothing.
use mathlib.Core.Path.{◌≡◌, sym, ap, ◌∙◌, subst}
use Prim.Native.Nat.{ℕ, ◌+◌, ◌*◌, ◌^◌, ◌≤◌}
use native.Mathlib.Nat.{le_refl, one-mul, add_comm}
use native.Mathlib.Omega.{arith}
use mathlib.Core.Bool.{Bool, true, false}
use lib.IntN.{pos}
use lib.Dec.{T}
use lib.Ieee.{Float, binary32, add, sub, mul, fits}
use lib.Ieee.Fits.{add-fits, sub-fits, mul-fits}
use lib.Ieee.Scale.{finite}
use Rattle.rounding.specs.Signed.{Diff, signed, turned, nought, ◌⊞◌, ◌⊟◌, ◌⊠◌, ◌⊙◌, Near, Same}
use Rattle.rounding.proofs.Signed.{size, Abs}
use Rattle.rounding.specs.Value.{val}
use Rattle.float.specs.Constants.{pos_zero, one}
use Rattle.float.specs.Units.{unit, mag}
use Rattle.rounding.proofs.Close.{Bound, Close}
use Rattle.rounding.proofs.Bounds.{bound-add, bound-sub, bound-turned, bound-times, bound-lift, bound-same, bound-weaken, bound-exact, bound-rounded, bound-rounded-relative, bound-error}
use Rattle.rounding.proofs.Exact.{mul_commutes, mul-sign-val}
use Rattle.rounding.proofs.Finite.{add-finite, sub-finite, mul-finite}
use Rattle.rounding.proofs.Product.{mul-near}
use Rattle.rounding.proofs.Sum.{add-near, sub-near}
use Rattle.rounding.proofs.Values.{val-sized, val-signed, val-zero}

-- ---- what is close from the start
-- a float that is the exact number, where it is finite
close-exact : {s k a : ℕ} {v : Float} {x : Diff} → T (fits binary32 v) → (T (finite v) → Same (s ⊙ val v) x) → Abs x a → Close s k 0 a v x
close-exact h e w = record { fit = h; bound = λ t. bound-exact (e t) w }

-- a float itself
pub close-self : (k : ℕ) (v : Float) → T (fits binary32 v) → Close 1 k 0 (mag v) v (val v)
close-self k v h = close-exact h (λ t. record { even = simp one-mul (add_comm _ _) }) (val-sized v)

pub close-zero : (s k : ℕ) → Close s k 0 0 pos_zero nought
unfolding fits
close-zero s k =
    let none : Abs nought 0 = record { above = le_refl 0; below = le_refl 0 } in
    close-exact tt (λ t. record { even = rw (val-zero false (pos 0)) }) none

-- ---- a wider bound, another unit, another way to write the exact number
pub close-weaken : {s k r a k' r' a' : ℕ} {v : Float} {x : Diff} → k ≤ k' → r ≤ r' → a ≤ a' → Close s k r a v x → Close s k' r' a' v x
close-weaken K R A h = record { fit = h.fit; bound = λ t. bound-weaken K R A (h.bound t) }

pub close-lift : (t : ℕ) {s k r a : ℕ} {v : Float} {x : Diff} → Close s k r a v x → Close (t * s) k (t * r) (t * a) v (t ⊙ x)
close-lift t h = record { fit = h.fit; bound = λ f. bound-lift t (h.bound f) }

pub close-same : {s k r a : ℕ} {v : Float} {x y : Diff} → Same x y → Close s k r a v x → Close s k r a v y
close-same e h = record { fit = h.fit; bound = λ t. bound-same e (h.bound t) }

-- ---- sums and differences
pub close-add : {s k r a q b : ℕ} {v u : Float} {x y : Diff} → k ≤ 2 ^ 23 → Close s k r a v x → Close s k q b u y → Close s (k + 1) (r + q) (a + b) (add binary32 v u) (x ⊞ y)
close-add {v} {u} K h g = record {
  fit = add-fits binary32 v u;
  bound = λ t.
      let f = add-finite binary32 v u t in
      bound-rounded-relative (val (add binary32 v u)) K (add-near v u h.fit g.fit t) (bound-add (h.bound f.0) (g.bound f.1));
}

pub close-sub : {s k r a q b : ℕ} {v u : Float} {x y : Diff} → k ≤ 2 ^ 23 → Close s k r a v x → Close s k q b u y → Close s (k + 1) (r + q) (a + b) (sub binary32 v u) (x ⊟ y)
close-sub {v} {u} K h g = record {
  fit = sub-fits binary32 v u;
  bound = λ t.
      let f = sub-finite binary32 v u t in
      bound-rounded-relative (val (sub binary32 v u)) K (sub-near v u h.fit g.fit t) (bound-sub (h.bound f.0) (g.bound f.1));
}

-- ---- a product with 1, or -1 where the sign is true
pub close-sign : (c : Bool) {s k r a : ℕ} {v : Float} {x : Diff} → Close s k r a v x → Close s k r a (mul binary32 v (one c)) (turned c x)
close-sign c {s} {k} {r} {a} {v} {x} h = record {
  fit = mul-fits binary32 v (one c);
  bound = λ t.
      let f = (mul-finite binary32 v (one c) t).0 in
      subst (λ (z : Diff). Bound s k r a z (turned c x)) (sym (mul-sign-val v c h.fit f)) (bound-turned c (h.bound f));
}

-- ---- products with a float
size-signed_product : (s t : Bool) (m n : ℕ) → size (signed s m ⊠ signed t n) ≡ m * n
size-signed_product false false m n = omega arith
size-signed_product false true m n = omega arith
size-signed_product true false m n = omega arith
size-signed_product true true m n = omega arith

pub val-product-size : (v c : Float) → size (val v ⊠ val c) ≡ mag v * mag c
val-product-size v c =
    let p = val-signed v in
    let q = val-signed c in
    ap (λ (z : Diff). size (z ⊠ val c)) p.1 ∙ ap (λ (z : Diff). size (signed p.0 (mag v) ⊠ z)) q.1 ∙ size-signed_product p.0 q.0 (mag v) (mag c)

-- the absolute part is half a unit, which any g with s * unit ≤ 2 * g covers
close-mul-half : (g : ℕ) (c : Float) {s k r a : ℕ} {v : Float} {x : Diff} → T (fits binary32 c) → k ≤ 2 ^ 23 → s * unit ≤ 2 * g → Close s k r a v x
    → Close (s * unit) (k + 1) (mag c * r + g) (mag c * a) (mul binary32 v c) (x ⊠ val c)
close-mul-half g c {s} {k} {r} {a} {v} {x} e K G h = record {
  fit = mul-fits binary32 v c;
  bound = λ t.
      let f = (mul-finite binary32 v c t).0 in
      let q = val-signed c in
      let d : Bound s k (mag c * r) (mag c * a) (val v ⊠ val c) (x ⊠ val c) =
      subst (λ (z : Diff). Bound s k (mag c * r) (mag c * a) (val v ⊠ z) (x ⊠ z)) (sym q.1) (bound-times q.0 (mag c) (h.bound f)) in
      let n : Near (2 ^ 24 ⊙ (unit ⊙ val (mul binary32 v c))) (2 ^ 24 ⊙ (val v ⊠ val c)) (size (val v ⊠ val c) + 2 ^ 23 * unit) =
      subst (λ (w : ℕ). Near (2 ^ 24 ⊙ (unit ⊙ val (mul binary32 v c))) (2 ^ 24 ⊙ (val v ⊠ val c)) (w + 2 ^ 23 * unit)) (sym (val-product-size v c)) (mul-near v c h.fit e t) in
      bound-rounded unit (2 ^ 23 * unit) g (val (mul binary32 v c)) K (omega arith) n d;
}

pub close-mul : (c : Float) {s k r a : ℕ} {v : Float} {x : Diff} → T (fits binary32 c) → k ≤ 2 ^ 23 → Close s k r a v x
    → Close (s * unit) (k + 1) (mag c * r + s * unit) (mag c * a) (mul binary32 v c) (x ⊠ val c)
close-mul c {s} e K h = close-mul-half (s * unit) c e K (omega arith) h

pub close-mul-left : (c : Float) {s k r a : ℕ} {v : Float} {x : Diff} → T (fits binary32 c) → k ≤ 2 ^ 23 → Close s k r a v x
    → Close (s * unit) (k + 1) (mag c * r + s * unit) (mag c * a) (mul binary32 c v) (x ⊠ val c)
close-mul-left c {s} {k} {r} {a} {v} {x} e K h =
    subst (λ (z : Float). Close (s * unit) (k + 1) (mag c * r + s * unit) (mag c * a) z (x ⊠ val c)) (mul_commutes binary32 v c) (close-mul c e K h)

-- ---- the bound as a distance
pub close-error : {s k r a : ℕ} {v : Float} {x : Diff} → k ≤ 2 ^ 23 → T (finite v) → Close s k r a v x → Near (2 ^ 23 ⊙ (s ⊙ val v)) (2 ^ 23 ⊙ x) (k * a + 2 ^ 24 * r)
close-error K t h = bound-error K (h.bound t)

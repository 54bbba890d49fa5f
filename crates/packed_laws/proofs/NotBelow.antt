-- Floats that are no NaN and not below zero: a zero of either sign, a positive number, or infinity. Rounding and each step that restores a radius keep them so.
-- Assumes nothing.
use Prim.Native.Nat.{ℕ, zero, suc, ◌+◌, ◌*◌, ◌^◌, ◌≤◌, ◌<◌}
use mathlib.Core.Path.{◌≡◌, refl, sym, ap, ◌∙◌, subst}
use mathlib.Core.Bool.{Bool, true, false, cond, true≢false, false≢true}
use native.Mathlib.Nat.{mul-pos, zero-mul}
use native.Mathlib.Omega.{arith}
use borrow.Author.Tests.{le-ltb, ltb-false}
use lib.IntN.{ℤ}
use lib.Dec.{T, ltb, lit<}
use lib.Ieee.{Float, nan, inf, fin, binary32, emax, low, up, down, odd, units, round, le, lt, eq, is_nan, of_bits}
use lib.Ieee.Exact.{HasValue, odd_sign, round_exact}
use lib.Ieee.Fits.{round_is, up_pos}
use lib.Ieee.Order.{drop, kept}
use lib.Ieee.Scale.{finite}
use Rattle.float.specs.Constants.{pos_zero}
use Rattle.radius.specs.Radii.{bad_radius}

abbrev pub NotBelow : Float → Type 0
NotBelow nan = ⊥
NotBelow (inf s) = s ≡ false
NotBelow (fin s m e) = s ≡ true → m ≡ 0

-- ---- in the terms of the comparison with 0.0

-- a number that is not above zero has no significand
no-significand : (m : ℕ) (e : ℤ) → m * up e ≤ 0 → m ≡ 0
no-significand zero e h = refl
no-significand (suc m) e h = let more : 0 < suc m * up e = mul-pos (omega arith) (up_pos e) in absurd (omega (arith, more, h))

pub good-not_below : (x : Float) → bad_radius x ≡ false → NotBelow x
unfolding lt of_bits
good-not_below nan e = true≢false e
good-not_below (inf s) e = absurd (true≢false e)
good-not_below (fin false m x) e = λ p. absurd (false≢true p)
good-not_below (fin true m x) e = λ p. no-significand m x (let h = ltb-false 0 (m * up x * 1 + 0 * 1 * down x) e in omega (arith, h))

pub not_below-zero : (x : Float) → NotBelow x → lt x pos_zero ≡ false
unfolding lt of_bits
not_below-zero nan n = absurd n
not_below-zero (inf s) n = n
not_below-zero (fin false m x) n = le-ltb (m * up x * 1) (0 * 1 * down x) (omega arith)
not_below-zero (fin true m x) n = rw (n refl) (le-ltb 0 (0 * up x * 1 + 0 * 1 * down x) (omega arith))

pub not_below-number : (x : Float) → NotBelow x → is_nan x ≡ false
unfolding is_nan
not_below-number nan n = absurd n
not_below-number (inf s) n = refl
not_below-number (fin s m x) n = refl

-- one that is no radius is infinite
pub not_below-bad : (x : Float) → NotBelow x → bad_radius x ≡ true → x ≡ inf false
not_below-bad nan n e = absurd n
not_below-bad (inf s) n e = ap inf n
not_below-bad (fin s m x) n e = absurd (false≢true (sym (not_below-zero (fin s m x) n) ∙ e))

-- ---- rounding

value-not_below : (x : Float) (a c : ℕ) → HasValue x false a c → NotBelow x
value-not_below nan a c v = v
value-not_below (inf s) a c v = absurd v
value-not_below (fin s m e) a c v = λ p. absurd (true≢false (sym p ∙ v.0))

units-not_below : (q k : ℕ) → NotBelow (units binary32 false q k)
unfolding units
units-not_below q k = go (ltb (q * 2 ^ k) (2 ^ (low binary32 + suc (emax binary32))))
  where
    go : (t : Bool) → NotBelow (cond t (odd 25 false q k 149) (inf false))
    go true = value-not_below (odd 25 false q k 149) (q * 2 ^ k) (2 ^ 149) (odd_sign 25 false q k 149)
    go false = refl

-- without a sign
pub round-not_below : (a c : ℕ) → NotBelow (round binary32 false a c)
round-not_below a c = subst NotBelow (sym (round_is binary32 false a c)) (units-not_below (kept 24 (a * 2 ^ 149) c) (drop 24 (a * 2 ^ 149) c))

-- a zero of either sign
pub record Fine (x : Float) : Type 0 where
  pub not_below : NotBelow x
  pub number : T (finite x)

value-zero : (x : Float) (s : Bool) (c : ℕ) → 0 < c → HasValue x s 0 c → Fine x
value-zero nan s c h v = absurd v
value-zero (inf t) s c h v = absurd v
value-zero (fin t m e) s c h v = record { not_below = λ p. no-significand m e (none (m * up e) c (down e) h v.1); number = tt }
  where
    none : (a k d : ℕ) → 0 < k → a * k ≡ 0 * d → a ≤ 0
    none zero k d g z = omega arith
    none (suc a) k d g z = let more : 0 < suc a * k = mul-pos (omega arith) g in absurd (omega (arith, more, z))

pub round-zero : (s : Bool) (c : ℕ) → 0 < c → Fine (round binary32 s 0 c)
round-zero s c h = value-zero (round binary32 s 0 c) s c h (round_exact binary32 s 0 c 0 0 h (lit< tt) (lit< tt) (sym (zero-mul c)))

-- what is at most a finite number is finite
pub below-finite : (x y : Float) → NotBelow x → T (le x y) → T (finite y) → T (finite x)
unfolding le lt eq
below-finite nan y n l f = n
below-finite (inf s) nan n l f = f
below-finite (inf s) (inf t) n l f = f
below-finite (inf true) (fin t m e) n l f = absurd (true≢false n)
below-finite (inf false) (fin t m e) n l f = l
below-finite (fin s m e) y n l f = tt

-- A float rounded to the nearest unsigned integer of some bits, half away from zero: it errs by half of 1.0 at most, where the cap of so many bits does not act.
-- Assumes nothing.
use mathlib.Core.Path.{◌≡◌, sym, ap, ◌∙◌, subst}
use Prim.Native.Nat.{ℕ, ◌+◌, ◌-◌, ◌*◌, ◌/◌, ◌^◌, ◌≤◌, ◌<◌, min}
use native.Mathlib.Nat.{lt_of_not-le, le_of_lt, mul-pos, mul-le-mul_right, le_of_mul-le-mul_right, div-mul-le_self, lt-div-mul-add}
use native.Mathlib.Omega.{arith}
use mathlib.Core.Bool.{true, false}
use lib.Ieee.{Float, nan, inf, fin, up, down}
use lib.Ieee.Fits.{down_pos}
use Rattle.float.specs.Rounding.{round_unsigned}
use Rattle.float.specs.Units.{unit}
use Rattle.rounding.proofs.Nearest.{Apart}
use Rattle.rounding.proofs.Positive.{Worth, worth-mag, worth-sign}
use Rattle.rounding.proofs.Values.{mag-exact}

-- a / d is k units; q is its nearest whole number
half-near : (a d k u q : ℕ) → 0 < d → k * d ≡ a * u → q * (2 * d) ≤ 2 * a + d → 2 * a + d ≤ q * (2 * d) + 2 * d → Apart 2 (q * u) k u
half-near a d k u q D e l g = record {
  above = le_of_mul-le-mul_right {m = 2 * (q * u)} {n = 2 * k + u} (omega (arith, e, mul-le-mul_right u l)) D;
  below = le_of_mul-le-mul_right {m = 2 * k} {n = 2 * (q * u) + u} (omega (arith, e, mul-le-mul_right u g)) D;
}

-- with a half more it is below 2 ^ w, so it is not cut off
uncapped : (w q k u : ℕ) → Apart 2 (q * u) k u → 2 * k + u < 2 ^ w * (2 * u) → q ≡ min q (2 ^ w - 1)
uncapped w q k u h l = let below : q < 2 ^ w = lt_of_not-le (λ (g : 2 ^ w ≤ q). omega (arith, h.above, mul-le-mul_right (2 * u) g, l)) in omega arith

pub round_unsigned-near : (w : ℕ) (y : Float) {k : ℕ} → Worth y k → 2 * k + unit < 2 ^ w * (2 * unit) → Apart 2 (round_unsigned w y * unit) k unit
unfolding round_unsigned
round_unsigned-near w nan h l = absurd h.number
round_unsigned-near w (inf s) h l = absurd h.number
round_unsigned-near w (fin true m e) {k} h l = rw (worth-sign true m e h tt) (record { above = omega arith; below = omega arith })
round_unsigned-near w (fin false m e) {k} h l =
    let a = m * up e in
    let d = down e in
    let q = (2 * a + d) / (2 * d) in
    let D : 0 < d = down_pos e in
    let is : k * d ≡ a * unit = ap (λ (z : ℕ). z * d) (sym (worth-mag h)) ∙ mag-exact false m e h.fit in
    let near : Apart 2 (q * unit) k unit = half-near a d k unit q D is (div-mul-le_self (2 * a + d) (2 * d)) (le_of_lt (lt-div-mul-add (mul-pos (omega arith) D))) in
    subst (λ (z : ℕ). Apart 2 (z * unit) k unit) (uncapped w q k unit near l) near

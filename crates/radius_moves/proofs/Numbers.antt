-- The numbers of a radius that goes through its linear form, as sizes in units, U of which make 1.0: l and H are the least and the greatest, D is the exact span
-- and d the rounded one; R is the radius, p how far it lies above the least; v is the one that is read, g how far that one lies above the least before the
-- last sum is rounded. Nothing here is about floats. Assumes nothing.
use Prim.Native.Nat.{ℕ, ◌+◌, ◌*◌, ◌^◌, ◌≤◌, ◌<◌}
use native.Mathlib.Nat.{mul-le-mul_right, le_of_mul-le-mul_right}
use native.Mathlib.Omega.{arith}
use lib.Dec.{lit≤}
use Rattle.rounding.proofs.Nearest.{Apart}
use Rattle.radius_moves.specs.Moves.{moved_scale, epsilon_units, allowed}

-- v lies so near to R as is allowed under the span D and the greatest H
abbrev pub Bounded : ℕ → ℕ → ℕ → ℕ → Type 0
Bounded v R D H = Apart moved_scale v R (allowed D H)

-- ---- each step, multiplied by d

-- one side of the sum of their errors
errors-above : (xd pU yd nd sd gU Ud W : ℕ) → 2 ^ 24 * xd ≤ 2 ^ 24 * pU + 4 * Ud → 2 ^ 24 * yd ≤ 2 ^ 24 * (65535 * xd) + 65535 * Ud → 2 ^ 24 * nd ≤ 2 ^ 24 * yd + 2 ^ 23 * Ud
    → 2 ^ 24 * (65535 * sd) ≤ 2 ^ 24 * nd + 65536 * Ud → 2 ^ 24 * gU ≤ 2 ^ 24 * sd + (Ud + 2 ^ 23 * W)
    → 2 ^ 24 * (65535 * gU) ≤ 2 ^ 24 * (65535 * pU) + ((2 ^ 23 + 2 ^ 19) * Ud + 65535 * 2 ^ 23 * W)
errors-above xd pU yd nd sd gU Ud W a b c e f = omega arith

errors-below : (xd pU yd nd sd gU Ud W : ℕ) → 2 ^ 24 * pU ≤ 2 ^ 24 * xd + 4 * Ud → 2 ^ 24 * (65535 * xd) ≤ 2 ^ 24 * yd + 65535 * Ud → 2 ^ 24 * yd ≤ 2 ^ 24 * nd + 2 ^ 23 * Ud
    → 2 ^ 24 * nd ≤ 2 ^ 24 * (65535 * sd) + 65536 * Ud → 2 ^ 24 * sd ≤ 2 ^ 24 * gU + (Ud + 2 ^ 23 * W)
    → 2 ^ 24 * (65535 * pU) ≤ 2 ^ 24 * (65535 * gU) + ((2 ^ 23 + 2 ^ 19) * Ud + 65535 * 2 ^ 23 * W)
errors-below xd pU yd nd sd gU Ud W a b c e f = omega arith

module _ (U d : ℕ) where
  -- times 65,535
  pub times-near : (y x : ℕ) → x ≤ U → Apart (2 ^ 24) y (65535 * x) (65535 * x) → Apart (2 ^ 24) (y * d) (65535 * (x * d)) (65535 * (U * d))
  times-near y x l h =
      let xd : x * d ≤ U * d = mul-le-mul_right d l in
      record { above = omega (arith, mul-le-mul_right d h.above); below = omega (arith, mul-le-mul_right d h.below) }

  -- to the nearest whole number
  pub number-near : (n y : ℕ) → Apart 2 (n * U) y U → Apart (2 ^ 24) (n * U * d) (y * d) (2 ^ 23 * (U * d))
  number-near n y h = record { above = omega (arith, mul-le-mul_right d h.above); below = omega (arith, mul-le-mul_right d h.below) }

  -- times the span
  pub part-near : (g s : ℕ) → s ≤ U → Apart (2 ^ 24) (g * U) (d * s) (d * s + 2 ^ 23 * U) → Apart (2 ^ 24) (g * U) (s * d) (U * d + 2 ^ 23 * U)
  part-near g s l h =
      let sd : s * d ≤ U * d = mul-le-mul_right d l in
      record { above = omega (arith, h.above); below = omega (arith, h.below) }

module _ (U d : ℕ) (big : 2 ^ 40 ≤ U) where
  -- what is lost below the normal range
  lost : 2 ^ 40 * d ≤ U * d
  lost = mul-le-mul_right d big

  -- the distance from the least over the span
  pub quotient-near : (x a p : ℕ) → a ≤ d → p ≤ 2 * d → Apart (2 ^ 24) a p p → Apart (2 ^ 24) (x * d) (a * U) (a * U + 2 ^ 23 * d) → Apart (2 ^ 24) (x * d) (p * U) (4 * (U * d))
  quotient-near x a p l m s h =
      let few : 2 ^ 23 * d ≤ U * d = omega (arith, lost) in
      let ad : a * U ≤ U * d = omega (arith, mul-le-mul_right U l) in
      let pd : p * U ≤ 2 * (U * d) = omega (arith, mul-le-mul_right U m) in
      let su : 2 ^ 24 * (a * U) ≤ 2 ^ 24 * (p * U) + p * U = omega (arith, mul-le-mul_right U s.above) in
      let sl : 2 ^ 24 * (p * U) ≤ 2 ^ 24 * (a * U) + p * U = omega (arith, mul-le-mul_right U s.below) in
      record { above = over (x * d) (a * U) (p * U) (U * d) few ad pd h.above su; below = under (x * d) (a * U) (p * U) (U * d) few ad pd h.below sl }
    where
      over : (xd aU pU Ud : ℕ) → 2 ^ 23 * d ≤ Ud → aU ≤ Ud → pU ≤ 2 * Ud → 2 ^ 24 * xd ≤ 2 ^ 24 * aU + (aU + 2 ^ 23 * d) → 2 ^ 24 * aU ≤ 2 ^ 24 * pU + pU → 2 ^ 24 * xd ≤ 2 ^ 24 * pU + 4 * Ud
      over xd aU pU Ud few ad pd h s = omega arith

      under : (xd aU pU Ud : ℕ) → 2 ^ 23 * d ≤ Ud → aU ≤ Ud → pU ≤ 2 * Ud → 2 ^ 24 * aU ≤ 2 ^ 24 * xd + (aU + 2 ^ 23 * d) → 2 ^ 24 * pU ≤ 2 ^ 24 * aU + pU → 2 ^ 24 * pU ≤ 2 ^ 24 * xd + 4 * Ud
      under xd aU pU Ud few ad pd h s = omega arith

  -- and back: over 65,535
  pub share-near : (s n : ℕ) → n ≤ 65535 → Apart (2 ^ 24) (s * 65535) (n * U) (n * U + 2 ^ 23 * 65535) → Apart (2 ^ 24) (65535 * (s * d)) (n * U * d) (65536 * (U * d))
  share-near s n l h =
      let few = lost in
      let nd : n * (U * d) ≤ 65535 * (U * d) = mul-le-mul_right (U * d) l in
      record { above = omega (arith, mul-le-mul_right d h.above); below = omega (arith, mul-le-mul_right d h.below) }

  -- the sum of these: how far the restored distance g lies from the exact one
  pub sum_near : (g s n y x p : ℕ)
      → Apart (2 ^ 24) (x * d) (p * U) (4 * (U * d)) → Apart (2 ^ 24) (y * d) (65535 * (x * d)) (65535 * (U * d))
      → Apart (2 ^ 24) (n * U * d) (y * d) (2 ^ 23 * (U * d)) → Apart (2 ^ 24) (65535 * (s * d)) (n * U * d) (65536 * (U * d))
      → Apart (2 ^ 24) (g * U) (s * d) (U * d + 2 ^ 23 * U)
      → Apart (2 ^ 24) (65535 * g) (65535 * p) ((2 ^ 23 + 2 ^ 19) * d + 65535 * 2 ^ 23)
  sum_near g s n y x p h1 h2 h3 h4 h5 =
      let above = errors-above (x * d) (p * U) (y * d) (n * U * d) (s * d) (g * U) (U * d) U h1.above h2.above h3.above h4.above h5.above in
      let below = errors-below (x * d) (p * U) (y * d) (n * U * d) (s * d) (g * U) (U * d) U h1.below h2.below h3.below h4.below h5.below in
      let some : 0 < U = omega arith in
      record {
        above = le_of_mul-le-mul_right {m = 2 ^ 24 * (65535 * g)} {n = 2 ^ 24 * (65535 * p) + ((2 ^ 23 + 2 ^ 19) * d + 65535 * 2 ^ 23)} (omega (arith, above)) some;
        below = le_of_mul-le-mul_right {m = 2 ^ 24 * (65535 * p)} {n = 2 ^ 24 * (65535 * g) + ((2 ^ 23 + 2 ^ 19) * d + 65535 * 2 ^ 23)} (omega (arith, below)) some;
      }

-- ---- the last sum

-- one rounding of what is at most the greatest, but for the span's rounding
last-part : (v w l d D H : ℕ) → l + D ≤ H → 2 ^ 24 * d ≤ 2 ^ 24 * D + D → w ≤ l + d → 2 ^ 24 * v ≤ 2 ^ 24 * w + w → 2 ^ 22 * v ≤ 2 ^ 22 * w + H
last-part v w l d D H m s k h = omega arith

last-back : (v w l d D H : ℕ) → l + D ≤ H → 2 ^ 24 * d ≤ 2 ^ 24 * D + D → w ≤ l + d → 2 ^ 24 * w ≤ 2 ^ 24 * v + w → 2 ^ 22 * w ≤ 2 ^ 22 * v + H
last-back v w l d D H m s k h = omega arith

-- ---- a span above 2 ^ -23: all errors before the last sum together are at most a step
epsilon-some : 2 ^ 40 ≤ epsilon_units
unfolding epsilon_units
epsilon-some = lit≤ tt

step_part : (a b d D : ℕ) → 2 ^ 17 ≤ D → 2 ^ 24 * d ≤ 2 ^ 24 * D + D → 2 ^ 24 * a ≤ 2 ^ 24 * b + ((2 ^ 23 + 2 ^ 19) * d + 65535 * 2 ^ 23) → a ≤ b + D
step_part a b d D some h k = omega arith

pub wide-end : (v g l p d D H : ℕ) → epsilon_units < d → l + D ≤ H → g ≤ d → Apart (2 ^ 24) d D D
    → Apart (2 ^ 24) (65535 * g) (65535 * p) ((2 ^ 23 + 2 ^ 19) * d + 65535 * 2 ^ 23) → Apart (2 ^ 24) v (l + g) (l + g) → Bounded v (l + p) D H
wide-end v g l p d D H wide m gd span h k =
    let some = far d D epsilon_units epsilon-some wide span.above in
    let gu = step_part (65535 * g) (65535 * p) d D some span.above h.above in
    let gl = step_part (65535 * p) (65535 * g) d D some span.above h.below in
    let vu = last-part v (l + g) l d D H m span.above (omega arith) k.above in
    let vl = last-back v (l + g) l d D H m span.above (omega arith) k.below in
    record { above = over v g l p D H gu vu; below = under v g l p D H gl vl }
  where
    far : (d D e : ℕ) → 2 ^ 40 ≤ e → e < d → 2 ^ 24 * d ≤ 2 ^ 24 * D + D → 2 ^ 17 ≤ D
    far d D e a b c = omega arith

    over : (v g l p D H : ℕ) → 65535 * g ≤ 65535 * p + D → 2 ^ 22 * v ≤ 2 ^ 22 * (l + g) + H → moved_scale * v ≤ moved_scale * (l + p) + allowed D H
    over v g l p D H a b = omega arith

    under : (v g l p D H : ℕ) → 65535 * p ≤ 65535 * g + D → 2 ^ 22 * (l + g) ≤ 2 ^ 22 * v + H → moved_scale * (l + p) ≤ moved_scale * v + allowed D H
    under v g l p D H a b = omega arith

-- ---- a span of 2 ^ -23 at most: the radius that is read lies between the least and the rounded sum of the least and the span
pub narrow-end : (v l p d D H : ℕ) → d ≤ epsilon_units → p ≤ D → l + D ≤ H → Apart (2 ^ 24) d D D → l ≤ v → 2 ^ 24 * v ≤ 2 ^ 24 * (l + d) + (l + d) → Bounded v (l + p) D H
narrow-end v l p d D H small below m span least most =
    let vu = last-part v (l + d) l d D H m span.above (omega arith) most in
    record { above = over v l p d D H small vu; below = under v l p d D H small below span.below least }
  where
    over : (v l p d D H : ℕ) → d ≤ epsilon_units → 2 ^ 22 * v ≤ 2 ^ 22 * (l + d) + H → moved_scale * v ≤ moved_scale * (l + p) + allowed D H
    over v l p d D H small a = omega arith

    under : (v l p d D H : ℕ) → d ≤ epsilon_units → p ≤ D → 2 ^ 24 * D ≤ 2 ^ 24 * d + D → l ≤ v → moved_scale * (l + p) ≤ moved_scale * v + allowed D H
    under v l p d D H small below a b = omega arith

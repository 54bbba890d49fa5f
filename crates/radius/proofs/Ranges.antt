-- The range of radii: what every radius has, both its ends have, and the greatest is not below the least. Assumes nothing.
use Prim.Native.Nat.{ℕ, suc, ◌*◌, ◌<◌, suc-le-suc}
use mathlib.Core.Path.{◌≡◌, refl}
use mathlib.Core.Bool.{Bool, true, false, cond}
use mathlib.Core.List.{List, [], ◌∷◌}
use native.Mathlib.Nat.{le_refl}
use native.Mathlib.Omega.{arith}
use borrow.Author.Tests.{le-ltb}
use lib.ListN.{length, get_or}
use lib.Ieee.{Float, nan, inf, fin, up, down, lt}
use Rattle.float.specs.Constants.{pos_zero}
use Rattle.radius.specs.Radii.{least, greatest, range_of}

-- ---- what every radius has, both ends of the range have

module _ (P : Float → Type 0) where
  cond_has : (t : Bool) {x y : Float} → P x → P y → P (cond t x y)
  cond_has true p q = p
  cond_has false p q = q

  least-has : (m : Float) (rs : List Float) → P m → ((i : ℕ) → i < length rs → P (get_or rs i nan)) → P (least m rs)
  unfolding least
  least-has m [] p h = p
  least-has m (r ∷ rs) p h = least-has (cond (lt r m) r m) rs (cond_has (lt r m) (h 0 (omega arith)) p) (λ i g. h (suc i) (suc-le-suc g))

  greatest-has : (m : Float) (rs : List Float) → P m → ((i : ℕ) → i < length rs → P (get_or rs i nan)) → P (greatest m rs)
  unfolding greatest
  greatest-has m [] p h = p
  greatest-has m (r ∷ rs) p h = greatest-has (cond (lt m r) r m) rs (cond_has (lt m r) (h 0 (omega arith)) p) (λ i g. h (suc i) (suc-le-suc g))

  pub min-has : (rs : List Float) → P pos_zero → ((i : ℕ) → i < length rs → P (get_or rs i nan)) → P (range_of rs).min
  unfolding range_of
  min-has [] z h = z
  min-has (r ∷ rs) z h = least-has r rs (h 0 (omega arith)) (λ i g. h (suc i) (suc-le-suc g))

  pub max-has : (rs : List Float) → P pos_zero → ((i : ℕ) → i < length rs → P (get_or rs i nan)) → P (range_of rs).max
  unfolding range_of
  max-has [] z h = z
  max-has (r ∷ rs) z h = greatest-has r rs (h 0 (omega arith)) (λ i g. h (suc i) (suc-le-suc g))

-- ---- the greatest is not below the least

-- no float is below itself
lt-itself : (x : Float) → lt x x ≡ false
unfolding lt
lt-itself nan = refl
lt-itself (inf true) = refl
lt-itself (inf false) = refl
lt-itself (fin true m e) = le-ltb (m * up e * down e) (m * up e * down e) (le_refl (m * up e * down e))
lt-itself (fin false m e) = le-ltb (m * up e * down e) (m * up e * down e) (le_refl (m * up e * down e))

-- one radius more keeps the order of two ends
ends-step : (a b : Bool) (lo hi r : Float) → lt r lo ≡ a → lt hi r ≡ b → lt hi lo ≡ false → lt (cond b r hi) (cond a r lo) ≡ false
ends-step true true lo hi r p q h = lt-itself r
ends-step true false lo hi r p q h = q
ends-step false true lo hi r p q h = p
ends-step false false lo hi r p q h = h

ends-order : (lo hi : Float) (rs : List Float) → lt hi lo ≡ false → lt (greatest hi rs) (least lo rs) ≡ false
unfolding least greatest
ends-order lo hi [] h = h
ends-order lo hi (r ∷ rs) h = ends-order (cond (lt r lo) r lo) (cond (lt hi r) r hi) rs (ends-step (lt r lo) (lt hi r) lo hi r refl refl h)

pub range-order : (rs : List Float) → lt (range_of rs).max (range_of rs).min ≡ false
unfolding range_of
range-order [] = lt-itself pos_zero
range-order (r ∷ rs) = ends-order r r rs (lt-itself r)

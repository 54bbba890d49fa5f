-- A distance by its sum, case by case: a sum that is NaN is refused, and of a number the cut is judged as a score is. Assumes nothing.
use mathlib.Core.Path.{◌≡◌, refl}
use mathlib.Core.Bool.{true, false}
use lib.Ieee.{Float, nan, inf, lt, is_nan}
use Rattle.error.specs.Answer.{value, refused}
use Rattle.error.specs.Checks.{finite_score_of}
use Rattle.float.specs.Constants.{pos_zero}
use Rattle.turbo_distance.specs.Distance.{cut_at_zero, distance_by_sum}

pub by-sum-nan : (x : Float) → is_nan x ≡ true → distance_by_sum x ≡ refused 12 0
unfolding distance_by_sum
by-sum-nan x h = simp h

pub by-sum-number : (x : Float) → is_nan x ≡ false → distance_by_sum x ≡ finite_score_of (cut_at_zero x)
unfolding distance_by_sum
by-sum-number x h = simp h

-- 'minus infinity included' and 'plus infinity is 12'
pub by-sum-lowest : distance_by_sum (inf true) ≡ value pos_zero
unfolding is_nan lt cut_at_zero distance_by_sum
by-sum-lowest = refl

pub by-sum-highest : distance_by_sum (inf false) ≡ refused 12 0
unfolding is_nan lt cut_at_zero distance_by_sum
by-sum-highest = refl

-- the cut alone makes 0 of a NaN
pub cut-nan : finite_score_of (cut_at_zero nan) ≡ value pos_zero
unfolding lt cut_at_zero
cut-nan = refl

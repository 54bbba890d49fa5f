-- The range of radii, found by a loop that keeps the least and the greatest so far: `range-start` opens it, `range-step` is one turn, `range_end` its end.
-- And what an accepted radius is: finite, no NaN and not below zero. Assumes nothing.
use Prim.Native.Nat.{ℕ, suc, ◌+◌, ◌≤◌, ◌<◌}
use mathlib.Core.Path.{◌≡◌, refl, ap, ◌∙◌}
use mathlib.Core.Bool.{true, false, cond, true≢false}
use mathlib.Core.List.{List, [], ◌∷◌}
use native.Mathlib.Nat.{not-suc-le-zero}
use native.Mathlib.Numerals.{add-one}
use native.Mathlib.Omega.{arith}
use lib.ListN.{length, get_or, drop, drop_of_length-le}
use lib.Seq.{drop-cons}
use lib.Ieee.{Float, nan, inf, fin, is_nan, lt}
use lib.Ieee.Scale.{finite}
use Rattle.float.specs.Constants.{pos_zero, one}
use Rattle.radius.specs.Radii.{bad_radius, least, greatest, range_of}
use Rattle.radius.specs.declared.Range.{Range}

-- the range of what was passed, with these two the least and the greatest of it, and of what is left
abbrev pub range_onward : Float → Float → List Float → Range
range_onward lo hi rs = record { min = least lo rs; max = greatest hi rs }

pub range_none : (rs : List Float) → length rs ≡ 0 → range_of rs ≡ record { min = pos_zero; max = pos_zero }
unfolding range_of
range_none [] e = refl
range_none (r ∷ rs) e = absurd (omega (arith, e))

pub range-start : (rs : List Float) (d : Float) → 0 < length rs → range_of rs ≡ range_onward (get_or rs 0 d) (get_or rs 0 d) (drop 1 rs)
unfolding range_of
range-start [] d h = absurd (not-suc-le-zero h)
range-start (r ∷ rs) d h = refl

range_cons : (lo hi r : Float) (rs : List Float) → range_onward lo hi (r ∷ rs) ≡ range_onward (cond (lt r lo) r lo) (cond (lt hi r) r hi) rs
unfolding least greatest
range_cons lo hi r rs = refl

pub range-step : (rs : List Float) (i : ℕ) (d lo hi : Float) → i < length rs → let r = get_or rs i d in range_onward lo hi (drop i rs) ≡ range_onward (cond (lt r lo) r lo) (cond (lt hi r) r hi) (drop (i + 1) rs)
range-step rs i d lo hi h = rw (add-one, drop-cons rs i d h) (range_cons lo hi (get_or rs i d) (drop (suc i) rs))

range-nil : (lo hi : Float) → range_onward lo hi [] ≡ record { min = lo; max = hi }
unfolding least greatest
range-nil lo hi = refl

pub range_end : (rs : List Float) (i : ℕ) (lo hi : Float) → length rs ≤ i → range_onward lo hi (drop i rs) ≡ record { min = lo; max = hi }
range_end rs i lo hi h = ap (range_onward lo hi) (drop_of_length-le rs h) ∙ range-nil lo hi

-- ---- an accepted radius

pub radius-finite : (r : Float) → bad_radius r ≡ false → finite r ≡ true
radius-finite nan e = absurd (true≢false e)
radius-finite (inf s) e = absurd (true≢false e)
radius-finite (fin s m x) e = refl

pub radius-not-nan : (r : Float) → bad_radius r ≡ false → is_nan r ≡ false
unfolding is_nan
radius-not-nan nan e = absurd (true≢false e)
radius-not-nan (inf s) e = refl
radius-not-nan (fin s m x) e = refl

pub radius-not_below : (r : Float) → bad_radius r ≡ false → lt r pos_zero ≡ false
radius-not_below nan e = absurd (true≢false e)
radius-not_below (inf s) e = absurd (true≢false e)
radius-not_below (fin s m x) e = e

-- 1.0 passes
pub one-good : bad_radius (one false) ≡ false
unfolding lt
one-good = refl

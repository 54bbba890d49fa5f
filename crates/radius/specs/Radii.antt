-- These say which radii and which ranges are refused, and what the range of a list of radii is. Quotes are document 01's. Assumes nothing.
use Rattle.std.specs.Prelude.{ℕ, ◌<◌, ◌≡◌, Bool, false, not, cond, ◌||◌, List, [], ◌∷◌, length, get_or, Float}
use Rattle.std.specs.Float.{nan, binary32}
use Rattle.std.specs.Float.Ieee.{of_bits, lt}
use Rattle.std.specs.Float.Ieee.Scale.{finite}
use Rattle.float.specs.Bytes.{AreFloats}
use Rattle.float.specs.Constants.{pos_zero}
use Rattle.error.specs.Answer.{Check, check}
use Rattle.radius.specs.declared.Range.{Range}

-- These two are 65535.0 and 2^−23, by their patterns.
abbrev pub top_float : Float
top_float = of_bits binary32 0x477F_FF00

abbrev pub epsilon_float : Float
epsilon_float = of_bits binary32 0x3400_0000

-- '16: a radius is NaN, infinite or below zero.' −0.0 is not below zero.
abbrev pub bad_radius : Float → Bool
bad_radius r = not (finite r) || lt r pos_zero

-- The radii are f32, and none of them is NaN, infinite or below zero.
pub record GoodRadii (radii : List Float) : Type 0 where
  pub fit : AreFloats radii
  pub good : (i : ℕ) → i < length radii → bad_radius (get_or radii i nan) ≡ false

-- Document 02: '23 when the norm is not finite or below zero', with place 0. It is the test that a radius has to pass.
abbrev pub wrong_norm : Float → Check
wrong_norm norm = check (bad_radius norm) 23 0

-- '17: a bound not finite, or min above max'. A negative range passes here; a record's own rule refuses it.
abbrev pub bad_range : Range → Bool
bad_range range = not (finite range.min) || not (finite range.max) || lt range.max range.min

-- 'An equal value doesn't replace the earlier one'. These two are the least and the greatest of the value m and those after it.
unfoldable pub least : Float → List Float → Float
least m [] = m
least m (r ∷ rs) = least (cond (lt r m) r m) rs

unfoldable pub greatest : Float → List Float → Float
greatest m [] = m
greatest m (r ∷ rs) = greatest (cond (lt m r) r m) rs

-- 'no radii give 0, 0'.
abbrev pub no_range : Range
no_range = record { min = pos_zero; max = pos_zero }

-- This is the range of a list: its least and its greatest radius.
unfoldable pub range_of : List Float → Range
range_of [] = no_range
range_of (r ∷ rs) = record { min = least r rs; max = greatest r rs }

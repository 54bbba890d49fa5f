-- Private functions ask some of these of their callers and ensure the others. No public promise is stated by these. Assumes nothing.
use Rattle.std.specs.Prelude.{ℕ, ◌<◌, ◌≡◌, Bool, not, List, length, get_or, Float}
use Rattle.std.specs.Float.{nan}
use Rattle.std.specs.Float.Ieee.{lt}
use Rattle.float.specs.Constants.{pos_zero}

-- The float is a NaN, a zero or below zero.
abbrev pub not_positive : Float → Bool
not_positive r = not (lt pos_zero r)

-- Sixteen lanes hold this radius.
pub record Lanes (r : Float) (lanes : List Float) : Type 0 where
  pub long : length lanes ≡ 16
  pub same : (i : ℕ) → i < 16 → get_or lanes i nan ≡ r

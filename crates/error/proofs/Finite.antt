-- Whether a value is finite, as its check says it. Assumes nothing.
use mathlib.Core.Path.{◌≡◌, ap}
use mathlib.Core.Bool.{Bool, true, false, not}
use lib.Ieee.{Float}
use lib.Ieee.Scale.{finite}
use Rattle.error.specs.Checks.{bad_value}

pub finite-passes : (x : Float) → finite x ≡ true → bad_value x ≡ false
unfolding bad_value
finite-passes x e = ap not e

pub not-finite-offends : (x : Float) → finite x ≡ false → bad_value x ≡ true
unfolding bad_value
not-finite-offends x e = ap not e

-- and back
pub passes-finite : (x : Float) → bad_value x ≡ false → finite x ≡ true
unfolding bad_value
passes-finite x e = split (finite x) e
  where
    split : (b : Bool) → not b ≡ false → b ≡ true
    split true h = cc
    split false h = cc

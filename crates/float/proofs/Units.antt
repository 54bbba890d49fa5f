-- The size of a float in units: of a float with a known value, and of a zero. Assumes nothing.
use Rattle.std.proofs.Common.{◌≡◌, ℕ, ◌/◌, Bool, ℤ, ap, ◌∙◌, zero-mul, mul-div_cancel}
use native.Mathlib.Nat.{zero-div}
use lib.Ieee.{Float, nan, inf, fin, down}
use lib.Ieee.Exact.{HasValue}
use lib.Ieee.Fits.{down_pos}
use Rattle.float.specs.Units.{unit, mag}

pub mag-of-value : (x : Float) (s : Bool) (a : ℕ) → HasValue x s a unit → mag x ≡ a
unfolding mag
mag-of-value nan s a h = absurd h
mag-of-value (inf t) s a h = absurd h
mag-of-value (fin t m e) s a h = ap (λ (y : ℕ). y / down e) h.1 ∙ mul-div_cancel a (down_pos e)

pub mag-zero : (s : Bool) (e : ℤ) → mag (fin s 0 e) ≡ 0
unfolding mag
mag-zero s e = simp (zero-mul, zero-div)

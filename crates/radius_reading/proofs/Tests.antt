-- Tests that tell whether a radius is refused: two comparisons of a float, and one of a pattern. Assumes nothing.
use Prim.Native.Nat.{ℕ, ◌*◌, ◌<◌}
use mathlib.Core.Path.{◌≡◌, refl, ◌∙◌}
use mathlib.Core.Bool.{Bool, true, false, not, ◌||◌, false≢true}
use mathlib.Core.List.{List}
use native.Mathlib.Omega.{arith}
use borrow.Author.Tests.{lt-ltb, le-ltb}
use lib.Ieee.{Float, nan, inf, fin, binary32, of_bits, lt, up, down}
use Rattle.digits.specs.Digits.{number}
use Rattle.float.specs.Bytes.{of_le_bytes}
use Rattle.float.specs.Constants.{pos_zero}
use Rattle.float.specs.Units.{non_negative}
use Rattle.float.proofs.Decode.{non_negative-of_bits}
use Rattle.radius.specs.Radii.{bad_radius}

-- a radius is refused where it is below zero, or not below infinity
pub radius-tests : (x : Float) → bad_radius x ≡ lt x pos_zero || not (lt x (of_bits binary32 0x7F80_0000))
unfolding lt of_bits
radius-tests nan = refl
radius-tests (inf true) = refl
radius-tests (inf false) = refl
radius-tests (fin s m e) = split _
  where
    split : (b : Bool) → b ≡ b || false
    split true = refl
    split false = refl

pub radius-passes : (x : Float) → lt x pos_zero ≡ false → not (lt x (of_bits binary32 0x7F80_0000)) ≡ false → bad_radius x ≡ false
radius-passes x a b = radius-tests x ∙ rw (a, b)

-- a pattern below that of infinity has its sign clear
plain_passes : (x : Float) → non_negative x ≡ true → bad_radius x ≡ false
unfolding lt
plain_passes nan e = absurd (false≢true e)
plain_passes (inf s) e = absurd (false≢true e)
plain_passes (fin true m x) e = absurd (false≢true e)
plain_passes (fin false m x) e = le-ltb (m * up x * 1) (0 * down x) (omega arith)

pub pattern-passes : (bytes : List ℕ) → number 256 bytes < 0x7F80_0000 → bad_radius (of_le_bytes bytes) ≡ false
unfolding of_le_bytes
pattern-passes bytes h = plain_passes (of_bits binary32 (number 256 bytes)) (non_negative-of_bits (number 256 bytes) ∙ lt-ltb _ _ h)

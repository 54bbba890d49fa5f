-- The value of a finite f32 is a whole number of units, a unit being 2 ^ -149, the smallest f32 above zero. 'Every finite f32 is a whole multiple of 2^−149'
-- (document 01): the division in `mag` leaves nothing over where x fits binary32. Assumes nothing.
use Rattle.std.specs.Prelude.{Float}
use Rattle.std.specs.Float.{nan, inf, fin}
use Rattle.float.specs.Units.{mag}
use Rattle.rounding.specs.Signed.{Diff, nought, signed}

-- This is x in units, with its sign, and 0 for a NaN and an infinity.
unfoldable pub val : Float → Diff
val nan = nought
val (inf s) = nought
val (fin s m e) = signed s (mag (fin s m e))

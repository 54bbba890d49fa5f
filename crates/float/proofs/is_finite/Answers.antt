-- `float::is_finite` meets its contract: the finite floats are those between the two infinities, and a NaN is below nothing. Assumes nothing.
use Rattle.std.proofs.Common.{◌≡◌, true, false, refl, true≢false}
use mathlib.Core.Bool.{false≢true}
use lib.Ieee.{Float, nan, inf, fin, binary32, of_bits, nan_bits, lt}
use lib.Ieee.Scale.{finite}
use Rattle.float.proofs.is_finite.Goals as goal

below-infinity : (x : Float) → lt x (of_bits binary32 0x7F80_0000) ≡ true → lt (of_bits binary32 0xFF80_0000) x ≡ finite x
unfolding lt of_bits
below-infinity nan h = refl
below-infinity (inf true) h = refl
below-infinity (inf false) h = absurd (false≢true h)
below-infinity (fin s m e) h = refl

not-below-infinity : (x : Float) → lt x (of_bits binary32 0x7F80_0000) ≡ false → false ≡ finite x
unfolding lt of_bits
not-below-infinity nan h = refl
not-below-infinity (inf s) h = refl
not-below-infinity (fin s m e) h = absurd (true≢false h)

pub float_from_bits-t-2 : goal.float_from_bits-t-2
unfolding nan_bits
float_from_bits-t-2 c = tt

pub float_from_bits-result : goal.float_from_bits-result
unfolding nan_bits
float_from_bits-result c = tt

pub returns-then-x : goal.returns-then-x
returns-then-x c = below-infinity c.args.x c.if-x.true

pub returns-else-x : goal.returns-else-x
returns-else-x c = not-below-infinity c.args.x c.if-x.false

-- `polar_blocks::all_below_infinity` meets its contract, by the laws of `Sweep`: a value offends where it is not below infinity. Assumes nothing.
use Rattle.std.proofs.Common.{ap, not, arith}
use lib.Ieee.{nan, nan_bits}
use Rattle.error.proofs.Sweep.{swept-pass, swept-spot}
use Rattle.polar_blocks.specs.Inner.{not_below_infinity}
use Rattle.polar_blocks.proofs.all_below_infinity.Goals.{then-not-x, else-not-x}
use Rattle.polar_blocks.proofs.all_below_infinity.Goals as goal

pub float_from_bits-t-10 : goal.float_from_bits-t-10
unfolding nan_bits
float_from_bits-t-10 c = tt

pub loop-x-preserved : goal.loop-x-preserved
loop-x-preserved c = elim c.if-not-x.branch [ then-not-x w ↦ rw w.ok-is (swept-spot not_below_infinity _ _ _ nan (omega arith) (ap not w.if-not-x.true) c.loop-x.invariant) | else-not-x w ↦ rw w.ok-is (swept-pass not_below_infinity _ _ _ nan (omega arith) (ap not w.if-not-x.false) c.loop-x.invariant) ]

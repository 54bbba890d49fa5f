-- `polar_blocks::none_below_zero` meets its contract, by the laws of `Sweep`: a value offends where it is below zero. Assumes nothing.
use Rattle.std.proofs.Common.{arith}
use lib.Ieee.{nan, of_bits}
use Rattle.error.proofs.Sweep.{swept-pass, swept-spot}
use Rattle.polar_blocks.specs.Inner.{below_zero}
use Rattle.polar_blocks.proofs.none_below_zero.Goals.{then-x, else-x}
use Rattle.polar_blocks.proofs.none_below_zero.Goals as goal

pub loop-x-preserved : goal.loop-x-preserved
unfolding of_bits
loop-x-preserved c = elim c.if-x.branch [ then-x w ↦ rw w.ok-is (swept-spot below_zero _ _ _ nan (omega arith) w.if-x.true c.loop-x.invariant) | else-x w ↦ rw w.ok-is (swept-pass below_zero _ _ _ nan (omega arith) w.if-x.false c.loop-x.invariant) ]

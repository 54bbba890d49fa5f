-- `radius_range::all_positive` meets its contract, by the laws of `Sweep`. Assumes nothing.
use Rattle.std.proofs.Common.{not, ap}
use lib.Ieee.{nan, of_bits}
use Rattle.error.proofs.Sweep.{swept-pass, swept-spot}
use Rattle.radius_range.specs.Inner.{not_positive}
use Rattle.radius_range.proofs.all_positive.Goals.{else-not-radius, then-not-radius}
use Rattle.radius_range.proofs.all_positive.Goals as goal

pub loop-radius-preserved : goal.loop-radius-preserved
unfolding of_bits
loop-radius-preserved c = elim c.if-not-radius.branch [ then-not-radius w ↦ rw w.ok-is (swept-spot not_positive c.args.radii.now _ _ nan c.loop-radius-test.true (ap not w.if-not-radius.true) c.loop-radius.invariant) | else-not-radius w ↦ rw w.ok-is (swept-pass not_positive c.args.radii.now _ _ nan c.loop-radius-test.true (ap not w.if-not-radius.false) c.loop-radius.invariant) ]

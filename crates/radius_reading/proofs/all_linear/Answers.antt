-- `radius_reading::all_linear` meets its contract: a radius passes by both tests. Assumes nothing.
use mathlib.Core.Path.{ap}
use mathlib.Core.Bool.{not}
use native.Mathlib.Omega.{arith}
use lib.Ieee.{nan_bits}
use Rattle.radius_reading.proofs.Scan.{first-linear}
use Rattle.radius_reading.proofs.Tests.{radius-passes}
use Rattle.radius_reading.proofs.all_linear.Goals as goal

pub float_from_bits-t-10 : goal.float_from_bits-t-10
unfolding nan_bits
float_from_bits-t-10 c = tt

pub returns-then-above : goal.returns-then-above
returns-then-above c = λ finite. let so_far = c.loop-i.invariant in
    first-linear _ _ _ c.requires _ (omega arith) (λ k l. radius-passes _ (so_far.above c.if-above.true k (omega arith)) (ap not (so_far.finite finite k (omega arith)))) (λ l. absurd (omega arith))

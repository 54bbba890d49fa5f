-- `radius_reading::read_linear` meets its contract: every place is filled. Assumes nothing.
use native.Mathlib.Omega.{arith}
use Rattle.radius_reading.proofs.Scan.{all-linear}
use Rattle.radius_reading.proofs.read_linear.Goals as goal

pub returns : goal.returns
returns c = all-linear _ _ _ (omega arith) _ _ c.loop-i.auto.out (λ k l. c.loop-i.invariant k (omega arith))

-- `radius_reading::read_floats` meets its contract: every place is filled. Assumes nothing.
use native.Mathlib.Omega.{arith}
use Rattle.radius_reading.proofs.Scan.{all-floats}
use Rattle.radius_reading.proofs.read_floats.Goals as goal

pub returns : goal.returns
returns c = all-floats _ _ (omega arith) _ _ c.loop-i.auto.out (λ k l. c.loop-i.invariant k (omega arith))

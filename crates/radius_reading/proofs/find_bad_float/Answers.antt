-- `radius_reading::find_bad_float` meets its contract: the first four bytes that are refused, or the end. Assumes nothing.
use native.Mathlib.Omega.{arith}
use Rattle.radius_reading.proofs.Scan.{first-float}
use Rattle.radius_reading.proofs.find_bad_float.Goals as goal

pub returns-then-is_bad_radius : goal.returns-then-is_bad_radius
returns-then-is_bad_radius c = first-float _ _ c.requires _ (omega arith) c.loop-i.invariant (λ l. cc)

pub returns : goal.returns
returns c = first-float _ _ c.requires _ (omega arith) (λ k l. c.loop-i.invariant k (omega arith)) (λ l. absurd (omega arith))

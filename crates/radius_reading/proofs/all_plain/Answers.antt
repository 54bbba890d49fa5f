-- `radius_reading::all_plain` meets its contract: a pattern below that of infinity is a radius. Assumes nothing.
use native.Mathlib.Omega.{arith}
use Rattle.radius_reading.proofs.Scan.{first-float}
use Rattle.radius_reading.proofs.Tests.{pattern-passes}
use Rattle.radius_reading.proofs.all_plain.Goals as goal

pub returns : goal.returns
returns c = λ ok. first-float _ _ c.requires _ (omega arith) (λ k l. pattern-passes _ (c.loop-i.invariant ok k (omega arith))) (λ l. absurd (omega arith))

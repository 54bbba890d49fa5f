-- `rotation_stages::double` does two stages of one block: one four more is through. Assumes nothing.
use native.Mathlib.Omega.{arith}
use Rattle.rotation_stages.proofs.Fours.{fours-more}
use Rattle.rotation_stages.proofs.double.Goals as goal

pub loop-offset-preserved : goal.loop-offset-preserved
loop-offset-preserved c = fours-more _ _ _ _ _ _ c.loop-offset.invariant c.four.ensures (omega arith)

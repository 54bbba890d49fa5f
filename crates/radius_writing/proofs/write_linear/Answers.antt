-- `radius_writing::write_linear` meets its contract: a turn writes the two bytes of one radius. Assumes nothing.
use mathlib.Core.Path.{sym, ◌∙◌}
use lib.Ieee.{nan}
use Rattle.radius.specs.Linear.{linear_bytes}
use Rattle.radius.proofs.Linear.{length-linear_bytes}
use Rattle.lists.proofs.Chunks.{joined-none}
use Rattle.radius_writing.proofs.Parts.{front-next}
use Rattle.radius_writing.proofs.write_linear.Goals as goal

pub loop-i-init : goal.loop-i-init
loop-i-init c = sym (joined-none (linear_bytes _))

pub loop-i-preserved : goal.loop-i-preserved
unfolding linear_bytes
loop-i-preserved c = front-next (linear_bytes _) 2 (length-linear_bytes _) _ _ nan _ _ c.loop-i-test.true (c.loop-i.auto.out ∙ c.requires) c.loop-i.invariant (rw (← c.span_of-span.ensures, ← c.quantize_radius.ensures) c.put_number.ensures)

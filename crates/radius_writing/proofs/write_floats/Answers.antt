-- `radius_writing::write_floats` meets its contract: a turn writes the four bytes of one radius. Assumes nothing.
use mathlib.Core.Path.{sym, ◌∙◌}
use native.Mathlib.Omega.{arith}
use lib.Ieee.{nan}
use Rattle.float.specs.Bytes.{to_le_bytes}
use Rattle.float.proofs.Bytes.{length-to_le_bytes, put_f32-room}
use Rattle.lists.proofs.Chunks.{joined-none}
use Rattle.radius_writing.proofs.Parts.{front-next}
use Rattle.radius_writing.proofs.write_floats.Goals as goal

pub loop-i-init : goal.loop-i-init
loop-i-init c = sym (joined-none to_le_bytes)

pub loop-i-preserved : goal.loop-i-preserved
loop-i-preserved c = front-next to_le_bytes 4 length-to_le_bytes _ _ nan _ _ c.loop-i-test.true (c.loop-i.auto.out ∙ c.requires) c.loop-i.invariant (c.put_f32.ensures ∙ put_f32-room _ _ _ (omega arith))

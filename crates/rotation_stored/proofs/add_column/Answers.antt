-- `rotation_stored::add_column` takes one column more: at the end all sums are filled anew. Assumes nothing.
use native.Mathlib.Omega.{arith}
use lib.Ieee.{nan}
use Rattle.lists.proofs.Loops.{filled-done}
use Rattle.rotation_stored.proofs.Columns.{taken-one}
use Rattle.rotation_stored.proofs.add_column.Goals as goal

pub returns : goal.returns
returns c = taken-one c.args.matrix.now c.args.input.now _ _ c.args.column c.requires.0 c.requires.1 (filled-done nan _ 0 _ _ _ (omega arith) (omega arith) c.loop-i.invariant)

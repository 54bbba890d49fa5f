-- `setup_tables::all_directions` meets its contract, by the laws of `Sweep`. Assumes nothing.
use Rattle.std.proofs.Common.{sym, ◌∙◌, arith}
use lib.Ieee.{nan}
use Rattle.error.proofs.Sweep.{swept-pass, swept-spot}
use Rattle.setup_tables.specs.Checks.{bad_direction}
use Rattle.setup_tables.proofs.all_directions.Goals.{else-is_bad_direction, then-is_bad_direction}
use Rattle.setup_tables.proofs.all_directions.Goals as goal

pub loop-entry-preserved : goal.loop-entry-preserved
loop-entry-preserved c = elim c.if-is_bad_direction.branch [ then-is_bad_direction w ↦ rw w.ok-is (swept-spot bad_direction _ _ _ nan (omega arith) (sym c.is_bad_direction.ensures ∙ w.if-is_bad_direction.true) c.loop-entry.invariant) | else-is_bad_direction w ↦ rw w.ok-is (swept-pass bad_direction _ _ _ nan (omega arith) (sym c.is_bad_direction.ensures ∙ w.if-is_bad_direction.false) c.loop-entry.invariant) ]

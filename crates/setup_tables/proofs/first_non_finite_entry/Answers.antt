-- `setup_tables::first_non_finite_entry` meets its contract: before the entry at row and column none offends, and none is found yet. Assumes nothing.
use Rattle.std.proofs.Common.{sym, ◌∙◌, arith}
use lib.Ieee.{nan}
use Rattle.error.proofs.Finite.{finite-passes, not-finite-offends}
use Rattle.error.proofs.Places.{place-skip, place_here, place_end}
use Rattle.error.specs.Checks.{bad_value}
use Rattle.setup_tables.proofs.Rows.{entry-below, rows-full, column-next}
use Rattle.setup_tables.proofs.first_non_finite_entry.Goals as goal

pub loop-column-preserved : goal.loop-column-preserved
loop-column-preserved c = (c.loop-column.invariant.0, column-next bad_value _ _ _ _ (place-skip bad_value _ _ nan (entry-below c.args.rows _ _ _ _ c.requires c.rows-test.true c.loop-column-test.true) (finite-passes _ (sym c.is_finite.ensures ∙ c.if-not-is_finite.false)) c.loop-column.invariant.1))

pub returns-then-not-is_finite : goal.returns-then-not-is_finite
returns-then-not-is_finite c = sym (place_here bad_value _ _ nan (entry-below c.args.rows _ _ _ _ c.requires c.rows-test.true c.loop-column-test.true) (not-finite-offends _ (sym c.is_finite.ensures ∙ c.if-not-is_finite.true)) c.loop-column.invariant.1)

pub returns-after-rows : goal.returns-after-rows
returns-after-rows c = let full = rows-full c.args.rows c.args.columns c.rows.row _ c.requires (omega arith) in
    c.rows.invariant.0 ∙ sym full ∙ sym (place_end bad_value _ _ (omega (arith, full)) c.rows.invariant.1)

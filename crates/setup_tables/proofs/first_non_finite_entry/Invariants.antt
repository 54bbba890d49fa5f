-- `setup_tables::first_non_finite_entry` meets its contract: before the entry at row and column none offends, and none is found yet. Assumes nothing.
use Rattle.std.proofs.Common.{◌≡◌, ◌+◌, ◌*◌, length, drop}
use Rattle.error.specs.Answer.{place}
use Rattle.error.specs.Checks.{bad_value}
use Rattle.setup_tables.proofs.first_non_finite_entry.Given as goal

abbrev pub invariant-loop-column : goal.invariant-loop-column
invariant-loop-column l = (l.found ≡ length l.matrix) × (place bad_value l.matrix ≡ (l.row * l.columns + l.column) + place bad_value (drop (l.row * l.columns + l.column) l.matrix))

abbrev pub invariant-rows : goal.invariant-rows
invariant-rows l = (l.found ≡ length l.matrix) × (place bad_value l.matrix ≡ l.row * l.columns + place bad_value (drop (l.row * l.columns) l.matrix))

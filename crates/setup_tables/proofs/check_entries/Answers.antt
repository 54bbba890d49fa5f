-- `setup_tables::check_entries` meets its contract: the pass says whether an entry offends, and the search where. Assumes nothing.
use Rattle.error.specs.Checks.{bad_value}
use Rattle.error.proofs.Sweep.{clear-passes, clear-offends}
use Rattle.setup_tables.proofs.check_entries.Goals as goal

pub returns-then-all_finite : goal.returns-then-all_finite
returns-then-all_finite c = simp (clear-passes bad_value _ c.all_finite.ensures c.if-all_finite.true)

pub returns : goal.returns
returns c = simp (clear-offends bad_value _ c.all_finite.ensures c.if-all_finite.false, c.first_non_finite_entry.ensures)

-- `setup_tables::all_directions` meets its contract, by the laws of `Sweep`. Assumes nothing.
use Rattle.setup_tables.specs.Checks.{bad_direction}
use Rattle.error.proofs.Sweep.{Swept}
use Rattle.setup_tables.proofs.all_directions.Given as goal

abbrev pub invariant-loop-entry : goal.invariant-loop-entry
invariant-loop-entry l = Swept bad_direction l.directions l.entry-index l.ok

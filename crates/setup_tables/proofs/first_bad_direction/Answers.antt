-- `setup_tables::first_bad_direction` meets its contract: where the pass finds nothing, there is none, and else the position is that of the first that offends. Assumes nothing.
use mathlib.Core.Path.{sym, ◌∙◌}
use Rattle.setup_tables.specs.Checks.{bad_direction}
use Rattle.std.proofs.Common.{rules}
use Rattle.error.proofs.Places.{found-position}
use Rattle.error.proofs.Sweep.{clear-found}
use Rattle.setup_tables.proofs.first_bad_direction.Goals as goal

pub returns-then-all_directions : goal.returns-then-all_directions
returns-then-all_directions c = clear-found bad_direction _ (sym c.all_directions.ensures ∙ c.if-all_directions.true)

pub returns : goal.returns
returns c = found-position bad_direction _ _ _ c.position.ensures.ran c.iter.ensures.rest (λ x q k. search rules) (λ x q k. search rules)

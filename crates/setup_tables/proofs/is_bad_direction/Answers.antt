-- `setup_tables::is_bad_direction` meets its contract, by the laws of `Directions`. Assumes nothing.
use mathlib.Core.Path.{sym}
use lib.Ieee.{of_bits, neg}
use Rattle.setup_tables.proofs.Directions.{direction-within, direction-below, direction-above}
use Rattle.setup_tables.proofs.is_bad_direction.Goals as goal

pub returns-then-entry-2 : goal.returns-then-entry-2
unfolding of_bits neg
returns-then-entry-2 c = sym (direction-within _ c.if-entry.true c.if-entry-2.true)

pub returns-else-entry-2 : goal.returns-else-entry-2
unfolding of_bits neg
returns-else-entry-2 c = sym (direction-above _ c.if-entry-2.false)

pub returns-else-entry : goal.returns-else-entry
unfolding of_bits neg
returns-else-entry c = sym (direction-below _ c.if-entry.false)

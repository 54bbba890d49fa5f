-- `error::first_non_finite` meets its contract: where the pass finds nothing there is no place, and else the position is that of the first value that offends. Assumes
-- nothing.
use mathlib.Core.Path.{sym, ◌∙◌}
use Rattle.std.proofs.Common.{rules}
use Rattle.error.specs.Checks.{bad_value}
use Rattle.error.proofs.Places.{found-position}
use Rattle.error.proofs.Sweep.{clear-found}
use Rattle.error.proofs.first_non_finite.Goals as goal

pub returns-then-all_finite : goal.returns-then-all_finite
returns-then-all_finite c = clear-found bad_value _ (sym c.all_finite.ensures ∙ c.if-all_finite.true)

pub returns : goal.returns
unfolding bad_value
returns c = found-position bad_value _ _ _ c.position.ensures.ran c.iter.ensures.rest (λ x q k. search rules) (λ x q k. search rules)

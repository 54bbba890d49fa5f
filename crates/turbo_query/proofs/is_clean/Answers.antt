-- `turbo_query::is_clean` meets its contract. Assumes nothing.
use mathlib.Core.Path.{sym, ap, ◌∙◌}
use Rattle.error.specs.Outcomes.{says}
use Rattle.turbo_query.proofs.Turned.{clean-refused, clean-not, clean-rest}
use Rattle.turbo_query.proofs.is_clean.Goals as goal

pub returns-then-not-all_finite : goal.returns-then-not-all_finite
returns-then-not-all_finite c = clean-not _ _ (ap says c.in-Ok.is) (sym c.all_finite.ensures ∙ c.if-not-all_finite.true)

pub returns-else-not-all_finite : goal.returns-else-not-all_finite
returns-else-not-all_finite c = clean-rest _ _ (ap says c.in-Ok.is) (sym c.all_finite.ensures ∙ c.if-not-all_finite.false) c.all_finite-in-Ok.ensures

pub returns-in-Err : goal.returns-in-Err
returns-in-Err c = clean-refused _ _ (ap says c.in-Err.is)

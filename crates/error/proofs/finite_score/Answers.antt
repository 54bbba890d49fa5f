-- `error::finite_score` meets its contract: by the two cases of the test. Assumes nothing.
use mathlib.Core.Path.{sym, ◌∙◌}
use Rattle.error.proofs.finite_score.Goals as goal

pub returns-then-is_finite : goal.returns-then-is_finite
returns-then-is_finite c = simp (sym c.is_finite.ensures ∙ c.if-is_finite.true)

-- `radius_reading::is_bad_range` meets its contract: the three tests in the definition's order. Assumes nothing.
use mathlib.Core.Path.{◌≡◌, sym, ◌∙◌}
use mathlib.Core.Bool.{not, ◌||◌}
use lib.Ieee.Scale.{finite}
use Rattle.radius_reading.proofs.is_bad_range.Goals.{Joined-not-is_finite, else-not-is_finite, then-not-is_finite}
use Rattle.radius_reading.proofs.is_bad_range.Goals as goal

-- where the first two tests meet
unbounded : (c : goal.Joined-not-is_finite) → let range = c.args.range in c.if-not-is_finite.value ≡ not (finite range.min) || not (finite range.max)
unbounded c = elim c.if-not-is_finite.branch [ then-not-is_finite w ↦ w.value-is ∙ simp (← c.is_finite.ensures, w.if-not-is_finite.true) | else-not-is_finite w ↦ w.value-is ∙ simp (← c.is_finite.ensures, w.if-not-is_finite.false, ← w.is_finite-else-not-is_finite.ensures) ]

pub returns-then-not-is_finite-2 : goal.returns-then-not-is_finite-2
returns-then-not-is_finite-2 c = c.if-not-is_finite-2.true ∙ simp (sym (unbounded (goal.at.returns-then-not-is_finite-2 c).Joined-not-is_finite) ∙ c.if-not-is_finite-2.true)

pub returns-else-not-is_finite-2 : goal.returns-else-not-is_finite-2
returns-else-not-is_finite-2 c = simp (sym (unbounded (goal.at.returns-else-not-is_finite-2 c).Joined-not-is_finite) ∙ c.if-not-is_finite-2.false)

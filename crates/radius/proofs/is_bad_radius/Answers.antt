-- `radius::is_bad_radius` meets its contract: the two tests in the definition's order. Assumes nothing.
use lib.Ieee.{of_bits}
use Rattle.radius.proofs.is_bad_radius.Goals as goal

pub returns-then-not-is_finite : goal.returns-then-not-is_finite
returns-then-not-is_finite c = simp (← c.is_finite.ensures, c.if-not-is_finite.true)

pub returns-else-not-is_finite : goal.returns-else-not-is_finite
unfolding of_bits
returns-else-not-is_finite c = simp (← c.is_finite.ensures, c.if-not-is_finite.false)

-- `radius_range::greater` meets its contract: the test is the definition's. Assumes nothing.
use Rattle.radius_range.proofs.greater.Goals as goal

pub returns-then-lane-radius : goal.returns-then-lane-radius
returns-then-lane-radius c = simp c.if-lane-radius.true

pub returns-else-lane-radius : goal.returns-else-lane-radius
returns-else-lane-radius c = simp c.if-lane-radius.false

-- `radius_range::lesser` meets its contract: the test is the definition's. Assumes nothing.
use Rattle.radius_range.proofs.lesser.Goals as goal

pub returns-then-radius-lane : goal.returns-then-radius-lane
returns-then-radius-lane c = simp c.if-radius-lane.true

pub returns-else-radius-lane : goal.returns-else-radius-lane
returns-else-radius-lane c = simp c.if-radius-lane.false

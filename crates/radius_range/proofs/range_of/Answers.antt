-- `radius_range::range_of` meets its contract: each way answers the range. Assumes nothing.
use mathlib.Core.Path.{sym, ◌∙◌}
use native.Mathlib.Omega.{arith}
use Rattle.radius_range.proofs.range_of.Goals as goal

pub lane_range-requires : goal.lane_range-requires
lane_range-requires c = (omega (arith, c.if-radii-lt32.false), sym c.all_positive.ensures ∙ c.if-all_positive.true)

-- `radius::range_of` meets its contract: a turn moves one radius from what is left into the least and the greatest. Assumes nothing.
use Rattle.std.proofs.Common.{◌≡◌, ◌+◌, drop}
use Rattle.radius.specs.Radii.{range_of}
use Rattle.radius.proofs.Radii.{range_onward}
use Rattle.radius.proofs.range_of.Given as goal

abbrev pub invariant-loop-radius : goal.invariant-loop-radius
invariant-loop-radius l = range_of l.radii ≡ range_onward l.min l.max (drop (1 + l.radius-index) l.radii)

-- `polar::polar_sum` meets its contract. The invariant: the sum so far, with the terms from pair i on, is the polar sum. Assumes nothing.
use Rattle.std.proofs.Common.{◌≡◌, ◌-◌, map, length}
use Rattle.rounding.specs.Butterfly.{from}
use Rattle.rounding.specs.Sums.{running}
use Rattle.polar.specs.Polar.{term, polar_sum_of}
use Rattle.polar.proofs.polar_sum.Given as goal

abbrev pub invariant-loop-i : goal.invariant-loop-i
invariant-loop-i l = polar_sum_of l.rotated l.directions l.indices l.radii ≡ running l.sum (map (λ j. term l.rotated l.directions l.indices l.radii j) (from l.i (length l.radii - l.i)))

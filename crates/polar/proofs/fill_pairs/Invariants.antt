-- `polar::fill_pairs` meets its contract. The invariant: what is written so far, with the pairs from i on, is the whole. Assumes nothing.
use Rattle.std.proofs.Common.{◌≡◌, ◌-◌, ◌*◌, ◌++◌, length, take}
use Rattle.rounding.specs.Butterfly.{from}
use Rattle.polar.specs.Polar.{along, across, laid, decoded_pairs}
use Rattle.polar.proofs.fill_pairs.Given as goal

abbrev pub invariant-loop-i : goal.invariant-loop-i
invariant-loop-i l = decoded_pairs l.directions l.indices l.radii ≡ take (2 * l.i) l.out ++ laid (along l.directions l.indices l.radii) (across l.directions l.indices l.radii) (from l.i (length l.radii - l.i))

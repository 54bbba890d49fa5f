-- `turbo_distance::cut_at_zero` meets its contract: by the two cases of the comparison, which is false for a NaN. Assumes nothing.
use mathlib.Core.Path.{refl}
use lib.Ieee.{of_bits}
use Rattle.turbo_distance.specs.Distance.{cut_at_zero}
use Rattle.turbo_distance.proofs.cut_at_zero.Goals as goal

pub returns-then-x : goal.returns-then-x
unfolding cut_at_zero of_bits
returns-then-x c = rw c.if-x.true refl

pub returns-else-x : goal.returns-else-x
unfolding cut_at_zero of_bits
returns-else-x c = rw c.if-x.false refl

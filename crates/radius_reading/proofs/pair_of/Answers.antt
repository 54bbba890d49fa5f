-- `radius_reading::pair_of` meets its contract: Horner's rule. Assumes nothing.
use native.Mathlib.Omega.{arith}
use Rattle.digits.specs.Digits.{number}
use Rattle.radius_reading.proofs.pair_of.Goals as goal

pub returns : goal.returns
unfolding number
returns c = omega arith

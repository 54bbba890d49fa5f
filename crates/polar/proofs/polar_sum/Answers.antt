-- `polar::polar_sum` meets its contract. The invariant: the sum so far, with the terms from pair i on, is the polar sum. Assumes nothing.
use Rattle.std.proofs.Common.{arith}
use lib.Ieee.{of_bits}
use Rattle.polar.specs.Polar.{polar_sum_of}
use Rattle.rounding.proofs.Running.{total-start, total-more, total-end}
use Rattle.polar.proofs.polar_sum.Goals as goal

pub loop-i-init : goal.loop-i-init
unfolding polar_sum_of of_bits
loop-i-init c = total-start _ _

pub loop-i-preserved : goal.loop-i-preserved
loop-i-preserved c = total-more _ _ _ _ _ (omega arith) c.pair_term-sum.ensures c.loop-i.invariant

pub returns : goal.returns
returns c = total-end _ _ _ _ (omega arith) c.loop-i.invariant

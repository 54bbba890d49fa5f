-- `polar_blocks::rest_sum` meets its contract. The invariant: the sum so far, with the terms from pair i on, is the whole. Assumes nothing.
use Rattle.std.proofs.Common.{◌≡◌}
use Rattle.polar_blocks.specs.Inner.{block_sum_from}
use Rattle.polar_blocks.proofs.rest_sum.Given as goal

abbrev pub invariant-loop-i : goal.invariant-loop-i
invariant-loop-i l = block_sum_from l.directions l.rotated l.block l.indices l.bits l.start l.from l.begun ≡ block_sum_from l.directions l.rotated l.block l.indices l.bits l.start l.i l.sum

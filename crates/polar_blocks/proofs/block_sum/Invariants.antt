-- `polar_blocks::block_sum` meets its contract. The invariant: the sum so far, with the terms from pair 4 k on, is the whole. Assumes nothing.
use Rattle.std.proofs.Common.{◌≡◌, ◌*◌}
use Rattle.polar_blocks.specs.Inner.{block_sum_from}
use Rattle.polar_blocks.proofs.block_sum.Given as goal

abbrev pub invariant-loop-k : goal.invariant-loop-k
invariant-loop-k l = block_sum_from l.directions l.rotated l.block l.indices l.bits l.start 0 l.begun ≡ block_sum_from l.directions l.rotated l.block l.indices l.bits l.start (4 * l.k) l.sum

-- `polar_blocks::blocks_sum` meets its contract. The invariant: what is left from pair `at` on, with the sum so far, is the whole. Assumes nothing.
use Rattle.std.proofs.Common.{◌≡◌, ◌%◌}
use Rattle.polar_blocks.specs.Payload.{payload_sum_of}
use Rattle.polar_blocks.proofs.Blocks.{onward_from}
use Rattle.polar_blocks.proofs.blocks_sum.Given as goal

abbrev pub invariant-loop-at : goal.invariant-loop-at
invariant-loop-at l = (l.at % 4 ≡ 0) × (payload_sum_of l.directions l.rotated l.profile l.range l.radii l.indices l.bits l.pairs ≡ onward_from l.directions l.rotated l.profile l.range l.radii l.indices l.bits l.pairs l.at l.sum)

-- `radius_range::lane_range` meets its contract: each radius goes into a lane, and the lanes' ranges are the list's. Assumes nothing.
use Rattle.std.proofs.Common.{◌≡◌, ◌+◌, ◌-◌, ◌*◌, length, drop}
use Rattle.std.specs.Slice.Iter.{chunks_exact_rest, chunks_exact_size}
use Rattle.radius_range.proofs.Best.{Both}
use Rattle.radius_range.proofs.lane_range.Given as goal

abbrev pub invariant-loop-block : goal.invariant-loop-block
invariant-loop-block l = record { size : chunks_exact_size l.block-iterator ≡ 16; rest : chunks_exact_rest l.block-iterator ≡ drop (16 * length l.yielded) l.radii; both : Both l.radii l.low l.high (16 * length l.yielded) }

-- what is left behind the block tells where it begins
abbrev pub invariant-loop-i : goal.invariant-loop-i
invariant-loop-i l = Both l.radii l.low l.high (length l.radii - (16 + length (chunks_exact_rest l.block-iterator)) + l.i)

abbrev pub invariant-loop-lane : goal.invariant-loop-lane
invariant-loop-lane l = Both l.radii l.low l.high (length l.radii - length l.rest + l.lane)

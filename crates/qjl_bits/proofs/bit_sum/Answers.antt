-- `qjl_bits::bit_sum` meets its contract: the loop keeps `BytesAdded`, and the last byte or no bits serve the values that are left. Assumes nothing.
use Rattle.std.proofs.Common.{◌≡◌, arith}
use lib.Ieee.{of_bits}
use Rattle.qjl_bits.proofs.Bits.{BytesAdded, sum-bits, bytes-turn, bytes-last, bytes-none}
use Rattle.qjl_bits.proofs.bit_sum.Goals.{After-loop-k}
use Rattle.qjl_bits.proofs.bit_sum.Goals as goal

pub loop-k-init : goal.loop-k-init
unfolding of_bits
loop-k-init c = sum-bits c.args.packed.now c.args.projected.now

pub loop-k-preserved : goal.loop-k-preserved
loop-k-preserved c = bytes-turn _ _ c.loop-k.sum c.loop-k.k c.loop-k.invariant _ (omega arith) c.add_byte-sum.ensures

-- the loop ends behind the last whole byte
added : (c : After-loop-k) → BytesAdded c.args.packed.now c.args.projected.now c.loop-k.sum c.min-bytes.result
added c = let all : c.loop-k.k ≡ c.min-bytes.result = omega arith in rw all at c.loop-k.invariant

pub returns-then-bytes-packed : goal.returns-then-bytes-packed
returns-then-bytes-packed c = bytes-last _ _ _ _ (added (goal.at.returns-then-bytes-packed c).After-loop-k) _ (omega arith) c.if-bytes-packed.true c.add_rest.ensures

pub returns : goal.returns
returns c = bytes-none _ _ _ _ (added (goal.at.returns c).After-loop-k) _ c.if-bytes-packed.false c.add_rest-2.ensures

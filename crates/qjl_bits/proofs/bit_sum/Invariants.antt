-- `qjl_bits::bit_sum` meets its contract: the loop keeps `BytesAdded`, and the last byte or no bits serve the values that are left. Assumes nothing.
use Rattle.qjl_bits.proofs.Bits.{BytesAdded}
use Rattle.qjl_bits.proofs.bit_sum.Given as goal

abbrev pub invariant-loop-k : goal.invariant-loop-k
invariant-loop-k l = BytesAdded l.packed l.projected l.sum l.k

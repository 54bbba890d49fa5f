-- `qjl_bits::add_rest` meets its contract: the loop keeps the sum by the bits and the values that are left. Assumes nothing.
use Rattle.std.proofs.Common.{◌≡◌, drop}
use Rattle.qjl_bits.specs.Inner.{bit_sum_from}
use Rattle.qjl_bits.proofs.add_rest.Given as goal

abbrev pub invariant-loop-value : goal.invariant-loop-value
invariant-loop-value l = bit_sum_from l.begun l.last (drop l.at l.projected) ≡ bit_sum_from l.sum l.bits (drop l.value-index l.value-items)

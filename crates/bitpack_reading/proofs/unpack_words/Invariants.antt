-- `bitpack_reading::unpack_words` meets its contract: the loop starts behind the eights and keeps `Unpacked`, and its turn is a law of it. Assumes nothing.
use lib.ListN.{length}
use Rattle.bitpack_reading.proofs.Unpacking.{Unpacked}
use Rattle.bitpack_reading.proofs.unpack_words.Given as goal

abbrev pub invariant-loop-i : goal.invariant-loop-i
invariant-loop-i l = Unpacked l.packed l.bits (length l.fn.out) l.out l.acc l.held l.at l.i

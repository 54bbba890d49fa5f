-- `bitpack_writing::pack_words` meets its contract: the loop starts behind the eights and keeps `Packed`, and its two turns are laws of it. Assumes nothing.
use lib.ListN.{length}
use Rattle.bitpack_writing.proofs.Packing.{Packed}
use Rattle.bitpack_writing.proofs.pack_words.Given as goal

abbrev pub invariant-loop-i : goal.invariant-loop-i
invariant-loop-i l = Packed l.indices l.bits (length l.fn.out) l.out l.acc l.held l.i l.k

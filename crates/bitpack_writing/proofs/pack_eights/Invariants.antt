-- `bitpack_writing::pack_eights` meets its contract: the loop keeps `Gathered`, and its turn is a law of it. Assumes nothing.
use lib.ListN.{length}
use Rattle.bitpack_writing.specs.Inner.{Gathered}
use Rattle.bitpack_writing.proofs.pack_eights.Given as goal

abbrev pub invariant-loop-k : goal.invariant-loop-k
invariant-loop-k l = Gathered l.indices l.bits (length l.fn.out) l.out l.k

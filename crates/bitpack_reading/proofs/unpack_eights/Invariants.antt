-- `bitpack_reading::unpack_eights` meets its contract: the loop keeps `Eights`, and its turn is a law of it. Assumes nothing.
use lib.ListN.{length}
use Rattle.bitpack_reading.specs.Inner.{Eights}
use Rattle.bitpack_reading.proofs.unpack_eights.Given as goal

abbrev pub invariant-loop-k : goal.invariant-loop-k
invariant-loop-k l = Eights l.packed l.bits (length l.initial.out) l.out l.k

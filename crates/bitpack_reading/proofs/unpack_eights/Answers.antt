-- `bitpack_reading::unpack_eights` meets its contract: the loop keeps `Eights`, and its turn is a law of it. Assumes nothing.
use Rattle.digits.proofs.Laws.{Below}
use Rattle.bitpack_reading.proofs.Eights.{eights-read, eights-turn}
use Rattle.bitpack_reading.proofs.unpack_eights.Goals as goal

pub overflow_sub-packed : goal.overflow_sub-packed
overflow_sub-packed c = eights-read _ _ _ c.requires.0 _ _ c.loop-k.invariant

pub loop-k-preserved : goal.loop-k-preserved
loop-k-preserved c = let below : Below 256 c.args.packed.now = record { at = λ i h. (c.type_inv.packed i).fits } in
    eights-turn _ _ _ c.requires.0 _ _ c.loop-k.invariant c.requires.1 c.loop-k-test.true _ _ _ below c.get_long-word.ensures c.put_four.ensures c.put_four-in-loop-k.ensures

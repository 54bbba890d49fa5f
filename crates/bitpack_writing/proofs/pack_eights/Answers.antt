-- `bitpack_writing::pack_eights` meets its contract: the loop keeps `Gathered`, and its turn is a law of it. Assumes nothing.
use Rattle.bitpack_writing.proofs.Groups.{gathered-within, gathered-turn}
use Rattle.bitpack_writing.proofs.pack_eights.Goals as goal

pub overflow_sub-out : goal.overflow_sub-out
overflow_sub-out c = rw c.loop-k.invariant.sized (gathered-within _ _ _ c.requires _ _ c.loop-k.invariant)

pub loop-k-preserved : goal.loop-k-preserved
loop-k-preserved c = let low = c.four_of-low in
    let high = c.four_of-high in
    gathered-turn _ _ _ c.requires _ _ c.loop-k.invariant c.loop-k-test.true _ _ low.ensures.0 high.ensures.0 _ low.ensures.1 high.ensures.1 c.put_eight.ensures

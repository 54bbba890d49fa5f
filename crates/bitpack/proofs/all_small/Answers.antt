-- `bitpack::all_small` meets its contract: the indices are merged, and one comparison judges them. Assumes nothing.
use lib.Bits.{or_lt}
use Rattle.bitpack.proofs.Merged.{merged-turn}
use Rattle.bitpack.proofs.all_small.Goals as goal

pub loop-index-preserved : goal.loop-index-preserved
loop-index-preserved c = let s = c.loop-index in
    record { power = s.invariant.power; small = or_lt 16 s.all _ s.invariant.small (c.type_inv.indices s.index-index).fits; swept = merged-turn _ _ _ s.all c.loop-index-test.true s.invariant.swept }

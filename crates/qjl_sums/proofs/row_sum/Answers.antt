-- `qjl_sums::row_sum` meets its contract: the loop keeps the dot product as the running sum and what is left of both lists. Assumes nothing.
use Rattle.std.proofs.lemmas.Slice.Zip.{Zip-more, either_empty_from_Zip}
use Rattle.qjl_sums.proofs.Rows.{dot-next, dot-through}
use Rattle.qjl_sums.proofs.row_sum.Goals as goal

pub loop-entry-preserved : goal.loop-entry-preserved
loop-entry-preserved c = let pair = Zip-more c.loop-entry.entry-iterator c.next.new.self _ _ c.in-Some.is c.next.ensures.steps in
    dot-next _ _ _ pair.0 pair.1 c.loop-entry.invariant

pub returns : goal.returns
returns c = dot-through _ (either_empty_from_Zip c.loop-entry.entry-iterator c.next.new.self _ c.in-None.is c.next.ensures.steps) c.loop-entry.invariant

-- `qjl_sums::eights` meets its contract: the loop keeps that the rows below `row` are through; eight more are stored, as far as there are so many. Assumes nothing.
use Rattle.std.proofs.Common.{◌≡◌, ◌+◌, length, arith}
use Rattle.std.specs.Prelude.{min}
use lib.Ieee.{nan}
use Rattle.lists.specs.Inner.{Filled}
use Rattle.qjl_sums.specs.Inner.{on_row}
use Rattle.qjl_sums.proofs.Rows.{placed, filled-over, rows-within, four-stored, rows-through}
use Rattle.qjl_sums.proofs.eights.Goals.{After-put-in-loop-row}
use Rattle.qjl_sums.proofs.eights.Goals as goal

pub eight_rows-sums-requires : goal.eight_rows-sums-requires
eight_rows-sums-requires c = (rows-within _ _ _ _ c.requires.1 (omega arith), rows-within _ _ _ _ c.requires.1 (omega arith))

-- the rows up to the last one that is stored are through
stored : (c : After-put-in-loop-row) → Filled nan (on_row (length c.args.query.now) c.args.matrix.now c.args.query.now) 0 (c.min-lower.result + 4) c.args.out.now c.put-in-loop-row.new.out
stored c = let row = c.loop-row.row in
    let p = placed _ row _ _ c.requires.0 (omega arith) c.min-upper.ensures c.min-lower.ensures in
    let here : min row (length c.args.out.now) ≡ row = omega arith in
    let before = rw here at c.loop-row.invariant in
    let sums = c.eight_rows-sums.ensures in
    let upper = four-stored _ _ _ c.loop-row.out _ _ c.put.ensures (omega arith) sums.0 in
    let lower = four-stored _ _ _ c.put.new.out _ _ c.put-in-loop-row.ensures (omega arith) sums.1 in
    filled-over nan _ _ _ _ _ _ _ p.goes_on (omega arith) (filled-over nan _ _ _ _ _ _ _ p.begins p.reaches before upper) lower

pub loop-row-preserved : goal.loop-row-preserved
loop-row-preserved c = let next : min (c.loop-row.row + 8) (length c.args.out.now) ≡ c.min-lower.result + 4 = omega arith in
    rw next (stored (goal.at.loop-row-preserved c).After-put-in-loop-row)

pub returns : goal.returns
returns c = rows-through _ _ _ _ _ (omega arith) c.loop-row.invariant

pub returns-2 : goal.returns-2
returns-2 c = rows-through _ _ _ _ _ (omega arith) (stored (goal.at.returns-2 c).After-put-in-loop-row)

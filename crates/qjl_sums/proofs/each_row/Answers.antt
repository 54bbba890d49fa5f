-- `qjl_sums::each_row` meets its contract: the loop keeps that the rows so far are through, and that what is left of the matrix starts with the next row. Assumes nothing.
use Rattle.std.proofs.Common.{List, ap, ◌∙◌, arith}
use lib.Ieee.{Float, nan}
use Rattle.lists.proofs.Loops.{filled_more}
use Rattle.rounding.specs.Sums.{dot}
use Rattle.qjl_sums.proofs.Rows.{drop-least, rows-through}
use Rattle.qjl_sums.proofs.each_row.Goals as goal

pub loop-o-preserved : goal.loop-o-preserved
loop-o-preserved c = let inv = c.loop-o.invariant in
    let sum = c.row_sum.ensures ∙ ap (λ (rest : List Float). dot rest c.args.query.now) inv.1 in
    (omega (arith, c.min-from.ensures), drop-least _ _ _ _ _ c.min-from.ensures inv.1, filled_more nan _ 0 _ _ _ _ sum (omega arith) (omega arith) inv.2)

pub returns : goal.returns
returns c = rows-through _ _ _ _ _ (omega arith) c.loop-o.invariant.2

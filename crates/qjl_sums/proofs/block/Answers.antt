-- `qjl_sums::block` meets its contract: the loop keeps what the sums have taken of the products that were placed. Assumes nothing.
use Rattle.std.proofs.Common.{◌+◌, ◌<◌, length, add-zero, arith}
use Rattle.qjl_sums.proofs.Fours.{four-placed}
use Rattle.qjl_sums.proofs.block.Goals as goal

pub loop-i-init : goal.loop-i-init
loop-i-init c = let p = c.requires.1 in (rw add-zero p.0, rw add-zero p.1)

pub loop-i-preserved : goal.loop-i-preserved
loop-i-preserved c = let small = c.loop-i-test.true in
    let inside : c.args.column + c.loop-i.i < length c.args.query.now = omega arith in
    let upper = c.products.ensures in
    let lower = c.products-2.ensures in
    (four-placed _ _ _ _ _ _ _ _ _ small inside upper.second upper.third c.plus-first.ensures c.loop-i.invariant.0, four-placed _ _ _ _ _ _ _ _ _ small inside lower.second lower.third c.plus-second.ensures c.loop-i.invariant.1)

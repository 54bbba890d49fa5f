-- `qjl_sums::blocks` meets its contract: the loop keeps what the sums have taken, sixteen columns at a time. Assumes nothing.
use Rattle.std.proofs.Common.{◌≡◌, ◌/◌, length, arith}
use Rattle.qjl_sums.proofs.blocks.Goals as goal

pub returns : goal.returns
returns c = let inv = c.loop-k.invariant in
    let all : c.loop-k.k ≡ length c.args.query.now / 16 = omega arith in
    (rw all at inv.0, rw all at inv.1)

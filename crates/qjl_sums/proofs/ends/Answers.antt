-- `qjl_sums::ends` meets its contract: the loop keeps what the sums have taken. Assumes nothing.
use Rattle.std.proofs.Common.{◌≡◌, length, arith}
use Rattle.qjl_sums.proofs.ends.Goals as goal

pub returns : goal.returns
returns c = let inv = c.loop-column.invariant in
    let all : c.loop-column.column ≡ length c.args.query.now = omega (arith, inv.0.within) in
    (rw all at inv.0, rw all at inv.1)

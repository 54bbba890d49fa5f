-- `qjl_sums::blocks` meets its contract: the loop keeps what the sums have taken, sixteen columns at a time. Assumes nothing.
use Rattle.std.proofs.Common.{◌*◌}
use Rattle.qjl_sums.specs.Inner.{FourSoFar}
use Rattle.qjl_sums.proofs.blocks.Given as goal

abbrev pub invariant-loop-k : goal.invariant-loop-k
invariant-loop-k l = FourSoFar l.matrix l.query l.upper (16 * l.k) l.sums.upper × FourSoFar l.matrix l.query l.lower (16 * l.k) l.sums.lower

-- `qjl_sums::block` meets its contract: the loop keeps what the sums have taken of the products that were placed. Assumes nothing.
use Rattle.std.proofs.Common.{◌+◌}
use Rattle.qjl_sums.specs.Inner.{FourSoFar}
use Rattle.qjl_sums.proofs.block.Given as goal

abbrev pub invariant-loop-i : goal.invariant-loop-i
invariant-loop-i l = FourSoFar l.matrix l.query l.upper (l.column + l.i) l.first × FourSoFar l.matrix l.query l.lower (l.column + l.i) l.second

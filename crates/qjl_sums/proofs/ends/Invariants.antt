-- `qjl_sums::ends` meets its contract: the loop keeps what the sums have taken. Assumes nothing.
use Rattle.qjl_sums.specs.Inner.{FourSoFar}
use Rattle.qjl_sums.proofs.ends.Given as goal

abbrev pub invariant-loop-column : goal.invariant-loop-column
invariant-loop-column l = FourSoFar l.matrix l.query l.upper l.column l.first × FourSoFar l.matrix l.query l.lower l.column l.second

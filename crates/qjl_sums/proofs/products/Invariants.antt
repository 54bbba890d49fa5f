-- `qjl_sums::products` meets its contract: the loop keeps that the terms of the columns passed are placed, those of two rows in each array. Assumes nothing.
use Rattle.qjl_sums.specs.Inner.{Interleaved}
use Rattle.qjl_sums.proofs.products.Given as goal

abbrev pub invariant-loop-i : goal.invariant-loop-i
invariant-loop-i l = Interleaved l.matrix l.query l.second l.from l.column l.i l.y × Interleaved l.matrix l.query l.third l.fourth l.column l.i l.z

-- `qjl_sums::row_sum` meets its contract: the loop keeps the dot product as the running sum and what is left of both lists. Assumes nothing.
use Rattle.std.proofs.Common.{◌≡◌, drop}
use Rattle.std.specs.Iterator.Adapters.{zip_first, zip_second}
use Rattle.std.specs.Slice.Iter.{iter_rest}
use Rattle.rounding.specs.Sums.{running, products, dot}
use Rattle.qjl_sums.proofs.row_sum.Given as goal

abbrev pub invariant-loop-entry : goal.invariant-loop-entry
invariant-loop-entry l = dot (drop l.from l.matrix) l.query ≡ running l.sum (products (iter_rest (zip_first l.entry-iterator)) (iter_rest (zip_second l.entry-iterator)))

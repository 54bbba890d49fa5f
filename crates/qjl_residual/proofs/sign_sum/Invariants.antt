-- `qjl_residual::sign_sum` meets its contract: the loop keeps the sum as the running sum and what is left of both lists. Assumes nothing.
use Rattle.std.proofs.Common.{◌≡◌, map}
use Rattle.std.specs.Iterator.Adapters.{zip_first, zip_second}
use Rattle.std.specs.Slice.Iter.{iter_rest}
use lib.Ieee.{binary32, of_int}
use Rattle.rounding.specs.Sums.{running, products}
use Rattle.qjl_residual.specs.Residual.{sign_sum_of}
use Rattle.qjl_residual.proofs.sign_sum.Given as goal

abbrev pub invariant-loop-sign : goal.invariant-loop-sign
invariant-loop-sign l = sign_sum_of l.signs l.projected ≡ running l.sum (products (map (of_int binary32) (iter_rest (zip_first l.sign-iterator))) (iter_rest (zip_second l.sign-iterator)))

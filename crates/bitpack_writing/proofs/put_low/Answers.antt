-- `bitpack_writing::put_low` meets its contract: four stores are one run. Assumes nothing.
use native.Mathlib.Omega.{arith}
use lib.ListN.{length-set}
use Rattle.digits.specs.Digits.{digits}
use Rattle.lists.proofs.Stores.{store-four}
use Rattle.bitpack_writing.proofs.Groups.{placed-run}
use Rattle.bitpack_writing.proofs.put_low.Goals as goal

pub bounds-out-at-2 : goal.bounds-out-at-2
bounds-out-at-2 c = simp length-set (omega arith)

pub bounds-out-at-3 : goal.bounds-out-at-3
bounds-out-at-3 c = simp length-set (omega arith)

pub bounds-out-at-4 : goal.bounds-out-at-4
bounds-out-at-4 c = simp length-set (omega arith)

pub returns : goal.returns
unfolding digits
returns c = placed-run _ _ _ 4 _ c.requires (store-four _ _ _ _ _ _ c.requires)

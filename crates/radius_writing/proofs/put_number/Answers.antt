-- `radius_writing::put_number` meets its contract: two stores, side by side. Assumes nothing.
use native.Mathlib.Omega.{arith}
use lib.ListN.{length-set}
use Rattle.digits.specs.Digits.{digits}
use Rattle.lists.proofs.Stores.{store_two}
use Rattle.radius_writing.proofs.put_number.Goals as goal

pub bounds-out-at-2 : goal.bounds-out-at-2
bounds-out-at-2 c = simp length-set (omega arith)

pub returns : goal.returns
unfolding digits
returns c = store_two _ _ _ _ c.requires

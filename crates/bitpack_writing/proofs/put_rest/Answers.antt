-- `bitpack_writing::put_rest` meets its contract: the loop keeps that what is written and what is left are the digits. Assumes nothing.
use mathlib.Core.Path.{sym, ◌∙◌}
use native.Mathlib.Omega.{arith}
use lib.ListN.{length-set}
use Rattle.digits.proofs.Digits.{write-next, write-end}
use Rattle.bitpack_writing.proofs.put_rest.Goals as goal

pub loop-k-preserved : goal.loop-k-preserved
loop-k-preserved c = simp length-set (c.loop-k.invariant ∙ write-next 256 _ _ _ (omega arith))

pub returns : goal.returns
returns c = sym (c.loop-k.invariant ∙ write-end 256 _ _ _ (omega arith))

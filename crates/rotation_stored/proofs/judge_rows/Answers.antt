-- `rotation_stored::judge_rows` meets its contract: the part of the array that `sum_rows` wrote is handed over. Assumes nothing.
use mathlib.Core.Path.{sym, ◌∙◌}
use native.Mathlib.Omega.{arith}
use borrow.Author.Tests.{ltb-false}
use Rattle.lists.proofs.Parts.{part-long}
use Rattle.rotation_stored.proofs.AtOnce.{judged-same}
use Rattle.rotation_stored.proofs.judge_rows.Goals as goal

pub slice_bounds-sums-end : goal.slice_bounds-sums-end
slice_bounds-sums-end c = omega (arith, ltb-false 512 _ c.requires.small)

pub sum_rows-requires : goal.sum_rows-requires
sum_rows-requires c = (c.requires.matrix_long, part-long _ _ (omega (arith, ltb-false 512 _ c.requires.small)))

pub hand_over-requires : goal.hand_over-requires
hand_over-requires c = c.requires.output_long ∙ sym (c.sum_rows.auto.output ∙ part-long _ _ (omega (arith, ltb-false 512 _ c.requires.small)))

pub returns : goal.returns
returns c = judged-same c.sum_rows.ensures c.hand_over.ensures

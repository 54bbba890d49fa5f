-- `rotation_stored::judge_columns` meets its contract: the part of the array that `project` wrote is handed over. Assumes nothing.
use mathlib.Core.Path.{sym, ◌∙◌}
use native.Mathlib.Omega.{arith}
use borrow.Author.Tests.{ltb-false}
use Rattle.lists.proofs.Parts.{part-long}
use Rattle.qjl_rows.proofs.Answers.{project-part}
use Rattle.rotation_stored.specs.Stored.{stored_unrotated}
use Rattle.rotation_stored.proofs.AtOnce.{judged-same}
use Rattle.rotation_stored.proofs.judge_columns.Goals as goal

pub slice_bounds-sums-end : goal.slice_bounds-sums-end
slice_bounds-sums-end c = omega (arith, ltb-false 512 _ c.requires.small)

pub hand_over-requires : goal.hand_over-requires
hand_over-requires c = c.requires.output_long ∙ sym (c.project.auto.out ∙ part-long _ _ (omega (arith, ltb-false 512 _ c.requires.small)))

pub returns : goal.returns
unfolding stored_unrotated
returns c = let a = c.args in
    judged-same
    (project-part a.dim a.dim a.matrix.now a.input.now _ _ (part-long _ _ (omega (arith, ltb-false 512 _ c.requires.small))) (record { query_long = c.requires.input_long; matrix_long = c.requires.matrix_long }) c.project.ensures.left)
    c.hand_over.ensures

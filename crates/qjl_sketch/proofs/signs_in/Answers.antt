-- `qjl_sketch::signs_in` meets its contract: the values that `project` wrote are those whose signs are taken. Assumes nothing.
use mathlib.Core.Path.{sym, ◌∙◌}
use native.Mathlib.Omega.{arith}
use Rattle.lists.proofs.Parts.{part-long}
use Rattle.qjl_rows.proofs.Answers.{project-part}
use Rattle.qjl_sketch.proofs.AtOnce.{signs_same}
use Rattle.qjl_sketch.proofs.signs_in.Goals as goal

pub judged_signs_into-requires : goal.judged_signs_into-requires
judged_signs_into-requires g c = sym (c.project.auto.out ∙ part-long _ _ (omega (arith, c.requires.1.0)))

pub returns : goal.returns
returns g c = let a = c.args in
    signs_same (project-part a.dim _ a.matrix.now a.vector.now _ _ (part-long _ _ (omega (arith, c.requires.1.0))) c.requires.0 c.project.ensures.left) c.judged_signs_into.ensures

-- `qjl_score::score_in` meets its contract: the values that `project` wrote are those that are scored. Assumes nothing.
use mathlib.Core.Path.{ap, ◌∙◌}
use mathlib.Core.List.{List}
use native.Mathlib.Omega.{arith}
use lib.Ieee.{Float}
use Rattle.lists.proofs.Parts.{part-long}
use Rattle.qjl_rows.proofs.Answers.{project-part}
use Rattle.qjl.specs.Score.{signed_score}
use Rattle.qjl_score.proofs.score_in.Goals as goal

pub returns : goal.returns
returns g c = let a = c.args in
    c.signed_score.ensures
    ∙ ap (λ (vs : List Float). signed_score a.projections vs a.sketch.now a.norm)
    (project-part a.dim _ a.matrix.now a.query.now _ _ (part-long _ _ (omega (arith, c.requires.1.0))) c.requires.0 c.project.ensures.left)

-- `capi::turns::foldrima_sketch_score` meets its contract. Assumes nothing.
use Rattle.setup.specs.Lent.{lent}
use Rattle.setup.specs.declared.Setup.{Setup}
use Rattle.qjl.specs.Score.{sketch_score_of}
use mathlib.Core.Path.{ap, ◌∙◌}
use Rattle.capi_answers.proofs.Tell.{told-as, left_as}
use Rattle.capi.proofs.turns.foldrima_sketch_score.Goals as goal

pub returns : goal.returns
returns c = let a = c.args in
    let e = c.sketch_score.ensures ∙ ap (λ (s : Setup). sketch_score_of s (lent a.rotation.now a.directions.now a.matrix.now) a.query.now a.sketch.now a.norm) c.setup-scalars.ensures in
    record { answer = told-as c.tell_score.ensures.answer e; left = left_as a.value.now c.tell_score.ensures.left e }

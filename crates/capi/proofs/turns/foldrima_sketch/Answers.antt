-- `capi::turns::foldrima_sketch` meets its contract. Assumes nothing.
use lib.ListN.{length}
use Rattle.error.specs.Answer.{done, after}
use Rattle.setup.specs.Lent.{lent}
use Rattle.setup.specs.declared.Setup.{Setup}
use Rattle.qjl.specs.Sketch.{sketch_of}
use mathlib.Core.Path.{ap, ◌∙◌}
use Rattle.capi_answers.proofs.Tell.{told-as}
use Rattle.capi.proofs.turns.foldrima_sketch.Goals as goal

pub returns : goal.returns
returns c = let a = c.args in
    let e = c.sketch.ensures.said ∙ ap (λ (s : Setup). done (sketch_of s (lent a.rotation.now a.directions.now a.matrix.now) a.vector.now (length a.out.now))) c.setup-scalars.ensures in
    record { answer = told-as c.tell.ensures e; left = c.sketch.ensures.left ∙ ap (λ (s : Setup). after (sketch_of s (lent a.rotation.now a.directions.now a.matrix.now) a.vector.now (length a.out.now)) a.out.now) c.setup-scalars.ensures }

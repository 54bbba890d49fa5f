-- `capi::scores::foldrima_prepare_query` meets its contract. Assumes nothing.
use mathlib.Core.Path.{ap, ◌∙◌}
use lib.ListN.{length}
use Rattle.error.specs.Answer.{done, after}
use Rattle.setup.specs.Lent.{lent}
use Rattle.setup.specs.declared.Setup.{Setup}
use Rattle.turbo_query.specs.Query.{prepare_rotated_of, prepare_projected_of}
use Rattle.capi_answers.proofs.Tell.{told-as}
use Rattle.capi.proofs.scores.foldrima_prepare_query.Goals as goal

pub returns : goal.returns
returns c = let a = c.args in
    let u = c.setup-scalars.ensures in
    let e = c.prepare_query.ensures.said ∙ ap (λ (s : Setup). done (prepare_rotated_of s (lent a.rotation.now a.directions.now a.matrix.now) a.query.now (length a.rotated.now) (length a.projected.now))) u in record { answer = told-as c.tell.ensures e; rotated = c.prepare_query.ensures.rotated ∙ ap (λ (s : Setup). after (prepare_rotated_of s (lent a.rotation.now a.directions.now a.matrix.now) a.query.now (length a.rotated.now) (length a.projected.now)) a.rotated.now) u; projected = c.prepare_query.ensures.projected ∙ ap (λ (s : Setup). after (prepare_projected_of s (lent a.rotation.now a.directions.now a.matrix.now) a.query.now (length a.rotated.now) (length a.projected.now)) a.projected.now) u }

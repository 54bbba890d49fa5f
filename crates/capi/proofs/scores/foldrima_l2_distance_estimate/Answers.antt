-- `capi::scores::foldrima_l2_distance_estimate` meets its contract. Assumes nothing.
use mathlib.Core.Path.{ap, ◌∙◌}
use Rattle.setup.specs.Lent.{lent}
use Rattle.setup.specs.declared.Setup.{Setup}
use Rattle.turbo.specs.Distance.{l2_distance_estimate_of}
use Rattle.capi_answers.proofs.Tell.{told-as, left_as}
use Rattle.capi.proofs.scores.foldrima_l2_distance_estimate.Goals as goal

pub returns : goal.returns
returns c = let a = c.args in
    let e = c.l2_distance_estimate.ensures ∙ ap (λ (s : Setup). l2_distance_estimate_of s (lent a.rotation.now a.directions.now a.matrix.now) a.query.now a.bytes.now) c.setup-scalars.ensures in
    record { answer = told-as c.tell_score.ensures.answer e; left = left_as a.value.now c.tell_score.ensures.left e }

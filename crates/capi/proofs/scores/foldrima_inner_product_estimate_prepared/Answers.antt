-- `capi::scores::foldrima_inner_product_estimate_prepared` meets its contract. Assumes nothing.
use mathlib.Core.Path.{ap, ◌∙◌}
use Rattle.setup.specs.declared.Setup.{Setup}
use Rattle.turbo_phased.specs.Estimates.{inner_product_estimate_prepared_of}
use Rattle.capi_answers.proofs.Tell.{told-as, left_as}
use Rattle.capi.proofs.scores.foldrima_inner_product_estimate_prepared.Goals as goal

pub returns : goal.returns
returns c = let a = c.args in
    let e = c.inner_product_estimate_prepared.ensures.said ∙ ap (λ (s : Setup). inner_product_estimate_prepared_of s a.directions.now a.rotated.now a.projected.now a.bytes.now) c.setup-scalars.ensures in
    record { answer = told-as c.tell_score.ensures.answer e; left = left_as a.value.now c.tell_score.ensures.left e }

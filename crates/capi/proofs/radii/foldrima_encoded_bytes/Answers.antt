-- `capi::radii::foldrima_encoded_bytes` meets its contract. Assumes nothing.
use Rattle.radius.specs.declared.RadiusCodecProfileV1.{RadiusCodecProfileV1}
use Rattle.radius.specs.Codec.{encoded_bytes_of}
use mathlib.Core.Path.{ap, ◌∙◌}
use Rattle.capi_answers.proofs.Tell.{told-as, left_as}
use Rattle.capi.proofs.radii.foldrima_encoded_bytes.Goals as goal

pub returns : goal.returns
returns c = let a = c.args in
    let e = c.encoded_bytes.ensures ∙ ap (λ (p : RadiusCodecProfileV1). encoded_bytes_of p a.payload.now) c.profile-chosen.ensures in
    record { answer = told-as c.tell_value.ensures.answer e; left = left_as a.value.now c.tell_value.ensures.left e }

-- `capi::radii::foldrima_decompress` meets its contract. Assumes nothing.
use lib.ListN.{length}
use Rattle.error.specs.Answer.{done, after}
use Rattle.radius.specs.declared.RadiusCodecProfileV1.{RadiusCodecProfileV1}
use Rattle.radius.specs.Codec.{decompress_of}
use Rattle.capi_answers.specs.Codes.{range_from}
use mathlib.Core.Path.{ap, ◌∙◌}
use Rattle.capi_answers.proofs.Tell.{told-as}
use Rattle.capi.proofs.radii.foldrima_decompress.Goals as goal

pub returns : goal.returns
returns c = let a = c.args in
    let e = c.decompress.ensures.said ∙ ap (λ (p : RadiusCodecProfileV1). done (decompress_of p a.count (range_from a.min a.max) a.payload.now (length a.out.now))) c.profile-chosen.ensures in
    record { answer = told-as c.tell.ensures e; left = c.decompress.ensures.left ∙ ap (λ (p : RadiusCodecProfileV1). after (decompress_of p a.count (range_from a.min a.max) a.payload.now (length a.out.now)) a.out.now) c.profile-chosen.ensures }

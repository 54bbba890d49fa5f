-- `capi::radii::foldrima_compress` meets its contract. Assumes nothing.
use lib.ListN.{length}
use Rattle.error.specs.Answer.{after}
use Rattle.radius.specs.declared.RadiusCodecProfileV1.{RadiusCodecProfileV1}
use Rattle.radius.specs.Codec.{compress_range_of, compress_bytes_of}
use Rattle.capi_answers.specs.Codes.{min_of, max_of}
use mathlib.Core.Path.{ap, ◌∙◌}
use Rattle.capi_answers.proofs.Tell.{told-as, part-as}
use Rattle.capi.proofs.radii.foldrima_compress.Goals as goal

pub returns : goal.returns
returns c = let a = c.args in
    let e = c.compress.ensures.said ∙ ap (λ (p : RadiusCodecProfileV1). compress_range_of a.radii.now p (length a.out.now)) c.profile-chosen.ensures in
    record { answer = told-as c.tell_range.ensures.answer e; least = part-as min_of a.min.now c.tell_range.ensures.least e; greatest = part-as max_of a.max.now c.tell_range.ensures.greatest e; left = c.compress.ensures.left ∙ ap (λ (p : RadiusCodecProfileV1). after (compress_bytes_of a.radii.now p (length a.out.now)) a.out.now) c.profile-chosen.ensures }

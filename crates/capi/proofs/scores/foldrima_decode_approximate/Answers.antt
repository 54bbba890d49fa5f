-- `capi::scores::foldrima_decode_approximate` meets its contract. Assumes nothing.
use mathlib.Core.Path.{ap, ◌∙◌}
use lib.ListN.{length}
use Rattle.error.specs.Answer.{done, after}
use Rattle.setup.specs.Lent.{lent}
use Rattle.setup.specs.declared.Setup.{Setup}
use Rattle.turbo_decode.specs.Decode.{decode_approximate_of}
use Rattle.capi_answers.proofs.Tell.{told-as}
use Rattle.capi.proofs.scores.foldrima_decode_approximate.Goals as goal

pub returns : goal.returns
returns c = let a = c.args in
    let e = c.decode_approximate.ensures.said ∙ ap (λ (s : Setup). done (decode_approximate_of s (lent a.rotation.now a.directions.now a.matrix.now) a.bytes.now (length a.out.now))) c.setup-scalars.ensures in
    record { answer = told-as c.tell_unless_withdrawn.ensures e; left = c.decode_approximate.ensures.left ∙ ap (λ (s : Setup). after (decode_approximate_of s (lent a.rotation.now a.directions.now a.matrix.now) a.bytes.now (length a.out.now)) a.out.now) c.setup-scalars.ensures }

-- `capi::scans::foldrima_scan_take` meets its contract. Assumes nothing.
use mathlib.Core.Path.{ap, ◌∙◌}
use Rattle.setup.specs.Lent.{lent}
use Rattle.setup.specs.declared.Setup.{Setup}
use Rattle.turbo_phased.specs.Estimates.{joined}
use Rattle.scan.specs.Scans.{scan_of}
use Rattle.scan.specs.Events.{Event, take_of, after_taking}
use Rattle.scan_taking.specs.Taking.{by_query, event_of}
use Rattle.capi_answers.proofs.Tell.{told-as, left_as}
use Rattle.capi.proofs.scans.foldrima_scan_take.Goals as goal

pub returns : goal.returns
returns c = let a = c.args in
    let w = c.take_within-taken.ensures in
    let e = ap (λ (s : Setup). event_of (by_query s (lent a.rotation.now a.directions.now a.matrix.now) a.query.now a.bytes.now)) c.setup-setup.ensures in
    let j = ap joined (w.said ∙ ap (λ (x : Event). take_of a.tally.taken x) e) in record { answer = told-as c.tell_phased.ensures.answer j; value = left_as a.value.now c.tell_phased.ensures.left j; left = w.left ∙ ap (λ (x : Event). after_taking (scan_of a.tally a.numbers.now a.scores.now) x) e }

-- `capi::scans::foldrima_scan_take_many` meets its contract. Assumes nothing.
use mathlib.Core.Path.{ap, ◌∙◌}
use Rattle.error.specs.Answer.{Answer, done}
use Rattle.setup.specs.declared.Setup.{Setup}
use Rattle.scan.specs.declared.Scan.{Scan}
use Rattle.scan.specs.Scans.{scan_of}
use Rattle.scan_many.specs.Many.{take_many_of}
use Rattle.capi_answers.proofs.Tell.{told-as, left_as}
use Rattle.capi.proofs.scans.foldrima_scan_take_many.Goals as goal

pub returns : goal.returns
returns c = let a = c.args in
    let w = c.take_many_within-many.ensures in
    let scan = scan_of a.tally a.numbers.now a.scores.now in
    let e = ap (λ (s : Setup). take_many_of scan s a.directions.now a.rotated.now a.projected.now a.bytes.now a.ends.now) c.setup-setup.ensures in
    record { answer = told-as c.tell.ensures (w.said ∙ ap (λ (x : Answer Scan). done x) e); left = left_as scan w.left e }

-- `scan_taking::take_prepared_within` meets its contract: what is asked is entered, and the history with it leads to the scan. Assumes nothing.
use mathlib.Core.Path.{sym, ap, ◌∙◌, subst}
use mathlib.Core.List.{◌∷◌}
use Rattle.scan.specs.declared.Scan.{Scan}
use Rattle.scan.specs.Scans.{scan_of}
use Rattle.scan.specs.Events.{after_taking}
use Rattle.scan.specs.Shortening.{came}
use Rattle.scan_taking.specs.Taking.{by_prepared, event_of, LedBy}
use Rattle.scan.proofs.Events.{after-asked}
use Rattle.scan_taking.proofs.Taking.{taken-led, as-by_query}
use Rattle.scan_taking.proofs.take_prepared_within.Goals as goal

pub returns : goal.returns
returns c = let a = c.args in
    let scan = scan_of a.tally a.numbers.now a.scores.now in
    let asked = c.ask_prepared-answer.ensures in
    let t = by_prepared a.setup a.directions.now a.rotated.now a.projected.now a.bytes.now in
    let left = c.enter_phased-next.ensures ∙ ap (after_taking scan) asked ∙ after-asked scan (event_of t) in
    record { said = asked; left = left; led = (λ k earlier led. subst (λ (s : Scan). LedBy k (came t ∷ earlier) s) (sym left) (taken-led k earlier scan t led)); plain = as-by_query a.setup a.directions.now a.rotated.now a.projected.now }

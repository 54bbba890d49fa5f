-- `scan_taking::take_prepared` meets its contract: what is asked is entered, and the history with it leads to the scan. Assumes nothing.
use mathlib.Core.Path.{ap, ◌∙◌, sym, subst}
use mathlib.Core.List.{◌∷◌}
use Rattle.turbo.proofs.Prepared.{prepared-stands}
use Rattle.turbo_phased.specs.Estimates.{says_phased}
use Rattle.scan.specs.declared.Scan.{Scan}
use Rattle.scan.specs.Events.{after_taking}
use Rattle.scan.specs.Shortening.{came}
use Rattle.scan_taking.specs.Taking.{by_prepared, event_of, LedBy}
use Rattle.scan.proofs.Events.{after-asked}
use Rattle.scan_taking.proofs.Taking.{taken-led, as-by_query}
use Rattle.scan_taking.proofs.take_prepared.Goals as goal

pub returns : goal.returns
returns c = let a = c.args in
    let t = by_prepared a.setup a.directions.now a.rotated.now a.projected.now a.bytes.now in
    let stands = prepared-stands a.setup a.directions.now a.rotated.now a.projected.now (λ j h. c.type_inv.directions j) in
    let asked = c.ask_prepared-answer.ensures in
    let left = c.enter_by_value.ensures.left ∙ ap (after_taking a.scan) asked ∙ after-asked a.scan (event_of t) in
    record { said = ap says_phased c.enter_by_value.ensures.said ∙ asked; left = left; led = λ k earlier led. subst (λ (s : Scan). LedBy k (came t ∷ earlier) s) (sym left) (taken-led k earlier a.scan t led); plain = as-by_query a.setup a.directions.now a.rotated.now a.projected.now; ordered = stands }

-- `scan_taking::take` meets its contract: what is asked is entered, and the history with it leads to the scan; demand 3 asks only that the lent floats are f32.
-- Assumes nothing.
use mathlib.Core.Path.{ap, ◌∙◌, sym, subst}
use mathlib.Core.List.{◌∷◌}
use lib.Ieee.{nan}
use Rattle.rounding.proofs.Folds.{all-fit-from}
use Rattle.setup.specs.Lent.{lent}
use Rattle.turbo.proofs.Demand.{demand}
use Rattle.turbo_phased.specs.Estimates.{says_phased}
use Rattle.scan.specs.declared.Scan.{Scan}
use Rattle.scan.specs.Events.{after_taking}
use Rattle.scan.specs.Shortening.{came}
use Rattle.scan_taking.specs.Taking.{by_query, event_of, LedBy}
use Rattle.scan.proofs.Events.{after-asked}
use Rattle.scan_taking.proofs.Taking.{by-records, taken-led}
use Rattle.scan_taking.proofs.Ranks.{ranks}
use Rattle.scan_taking.proofs.take.Goals as goal

pub returns : goal.returns
returns c = let a = c.args in
    let t = by_query a.setup (lent a.rotation.now a.directions.now a.matrix.now) a.query.now a.bytes.now in
    let ordered =
    demand a.setup (lent a.rotation.now a.directions.now a.matrix.now) a.query.now
    (all-fit-from a.rotation.now nan (λ j h. c.type_inv.rotation j))
    (all-fit-from a.directions.now nan (λ j h. c.type_inv.directions j))
    (all-fit-from a.matrix.now nan (λ j h. c.type_inv.matrix j))
    (all-fit-from a.query.now nan (λ j h. c.type_inv.query j)) in
    let asked = c.ask-answer.ensures in
    let left = c.enter_by_value.ensures.left ∙ ap (after_taking a.scan) asked ∙ after-asked a.scan (event_of t) in
    record { said = ap says_phased c.enter_by_value.ensures.said ∙ asked; left = left; led = (λ k earlier led. subst (λ (s : Scan). LedBy k (came t ∷ earlier) s) (sym left) (taken-led k earlier a.scan t led)); ordered = ordered; recorded = by-records; ranked = ranks }

-- A record that is taken: what is answered, the scan afterwards, and that the history with its event leads to it. Assumes nothing.
use Prim.Native.Nat.{ℕ, ◌≤◌, ◌<◌}
use mathlib.Core.Path.{◌≡◌, refl, sym, ap, ◌∙◌}
use mathlib.Core.Bool.{Bool, true, false}
use mathlib.Core.List.{List, ◌∷◌}
use mathlib.Core.Logic.{⊎_elim}
use borrow.Author.Tests.{le-leb, lt-leb}
use lib.Dec.{leb}
use Rattle.error.specs.Answer.{value, refused, withdrawn, check, unless}
use Rattle.ranking.proofs.Ranking.{either}
use Rattle.scan.specs.declared.Scan.{Scan}
use Rattle.scan.specs.Entering.{most, enter_of}
use Rattle.scan.specs.Events.{Event, take_of, after_taking}
use Rattle.scan.specs.Shortening.{Step, came, records_of}
use Rattle.scan.specs.History.{Led}
use Rattle.scan.proofs.Histories.{FiniteEvent, FiniteEvents, numbered-none, finite-accepted}
use Rattle.scan.proofs.Load.{compared-none}
use Rattle.scan.proofs.Entering.{led-same, skipped-led, entered-led}

-- ---- the answer

pub ask-full : (taken : ℕ) (e : Event) → most ≤ taken → take_of taken e ≡ refused 22 0
ask-full taken e h = simp (le-leb most taken h)

pub ask-some : (taken : ℕ) (e : Event) → taken < most → take_of taken e ≡ e
ask-some taken e h = simp (lt-leb most taken h)

-- ---- the scan

-- a scan that has taken all the numbers stays as it is, whatever is answered
full-stays : (scan : Scan) (e : Event) → leb most scan.tally.taken ≡ true → after_taking scan e ≡ scan
unfolding enter_of
full-stays scan (value a) h = simp h
full-stays scan (refused n p) h = refl
full-stays scan withdrawn h = refl

-- so 22 may be asked first
pub after-asked : (scan : Scan) (e : Event) → after_taking scan (take_of scan.tally.taken e) ≡ after_taking scan e
after-asked scan e =
    ⊎_elim
    (λ (h : leb most scan.tally.taken ≡ true). ap (λ (b : Bool). after_taking scan (unless (check b 22 0) e)) h ∙ sym (full-stays scan e h))
    (λ (h : leb most scan.tally.taken ≡ false). ap (λ (b : Bool). after_taking scan (unless (check b 22 0) e)) h)
    (either (leb most scan.tally.taken))

-- ---- the history

pub event-led : (k : ℕ) (steps : List (Step Event)) (scan : Scan) (e : Event) → FiniteEvent e → FiniteEvents (records_of steps) → Led k steps scan → Led k (came e ∷ steps) (after_taking scan e)
event-led k steps scan (value a) f fs led = entered-led k steps scan a f (finite-accepted (records_of steps) fs) led
event-led k steps scan (refused n p) f fs led = skipped-led k steps scan n p led
event-led k steps scan withdrawn f fs led = led-same k steps scan withdrawn (numbered-none (records_of steps)) (compared-none k steps withdrawn refl) led

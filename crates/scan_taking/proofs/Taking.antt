-- A record that is taken, by its answer with its phase; a score that is answered is finite, so the longer history leads to the scan; and by a prepared query it is taken
-- as by the query. Assumes nothing.
use Prim.Native.Nat.{ℕ}
use mathlib.Core.Path.{◌≡◌, refl, sym, ap, ◌∙◌, subst}
use mathlib.Core.List.{List, [], ◌∷◌, map}
use lib.Dec.{T}
use lib.Ieee.{Float}
use lib.Ieee.Scale.{finite}
use Rattle.std.specs.Prelude.{Result, Err}
use Rattle.error.specs.Answer.{value, refused, withdrawn, unless, after}
use Rattle.error.specs.Outcomes.{says_score}
use Rattle.error.specs.declared.Refusal.{Refusal}
use Rattle.error.specs.declared.Scored.{Scored}
use Rattle.turbo_phased.specs.Estimates.{says_phased}
use Rattle.scan.specs.declared.Scan.{Scan}
use Rattle.scan.specs.Entering.{enter_of}
use Rattle.scan.specs.Events.{Event, after_taking}
use Rattle.scan.specs.Shortening.{Step, came, asked, records_of, wrong_shorter, length_after}
use Rattle.scan.specs.AsOpened.{lengths_of, least_length}
use Rattle.scan.proofs.Histories.{FiniteEvent, FiniteEvents}
use Rattle.scan.proofs.Lengths.{length-least}
use Rattle.scan.proofs.Events.{event-led}
use Rattle.scan.proofs.Shortening.{records-plain, length-plain, agree-led}
use Rattle.scan_taking.specs.Taking.{Taking, by_query, by_prepared, event_of, step_of, LedBy, ByRecords, AsByQuery}
use Rattle.setup.specs.Lent.{lent}
use Rattle.setup.specs.declared.Setup.{Setup}
use Rattle.turbo.proofs.Prepared.{phased-equal-left}
use Rattle.turbo.proofs.Phased.{phased-finite, prepared-phased-finite}

-- ---- the scan

-- an answer from record reading on enters, and one from before does not
pub read-entered : (scan : Scan) (answer : Result Scored Refusal) (scored : Scored) {r : Scan} → says_phased answer ≡ value (says_score scored) → r ≡ enter_of scan (says_score scored) → r ≡ after_taking scan (says_phased answer)
read-entered scan answer scored e f = f ∙ sym (ap (after_taking scan) e)

pub unread-stays : (scan : Scan) (answer : Result Scored Refusal) (r : Refusal) → answer ≡ Err r → scan ≡ after_taking scan (says_phased answer)
unread-stays scan answer r e = sym (ap (λ (a : Result Scored Refusal). after_taking scan (says_phased a)) e)

-- ---- the history

finite-event : (e : Event) → ((x : Float) → e ≡ value (value x) → T (finite x)) → FiniteEvent e
finite-event (value (value x)) f = f x refl
finite-event (value (refused n p)) f = tt
finite-event (value withdrawn) f = tt
finite-event (refused n p) f = tt
finite-event withdrawn f = tt

-- a score that is answered is finite
pub finite-answered : (t : Taking) → FiniteEvent (event_of t)
finite-answered (by_query s l query bytes) = finite-event _ (λ x e. phased-finite s l query bytes e)
finite-answered (by_prepared s directions rotated projected bytes) = finite-event _ (λ x e. prepared-phased-finite s directions rotated projected bytes e)

pub finite-takings : (earlier : List Taking) → FiniteEvents (map event_of earlier)
unfolding FiniteEvents
finite-takings [] = tt
finite-takings (t ∷ earlier) = (finite-answered t, finite-takings earlier)

-- what came, and the length in force
records-came : (steps : List (Step Taking)) → records_of (map step_of steps) ≡ map event_of (records_of steps)
records-came [] = refl
records-came (came t ∷ steps) = ap (λ (l : List Event). event_of t ∷ l) (records-came steps)
records-came (asked n ∷ steps) = records-came steps

length-came : (k : ℕ) (steps : List (Step Taking)) → length_after k (map step_of steps) ≡ length_after k steps
length-came k [] = refl
length-came k (came t ∷ steps) = length-came k steps
length-came k (asked n ∷ steps) = ap (λ (m : ℕ). after (unless (wrong_shorter m n) (value n)) m) (length-came k steps)

pub by-records : (k : ℕ) (steps : List (Step Taking)) → ByRecords k steps
by-records k steps =
    let plain = map came (records_of steps) in
    let shortest = least_length k (lengths_of steps) in
    let length = length-came k steps ∙ length-least k steps ∙ sym (length-came shortest plain ∙ length-plain shortest (records_of steps)) in
    let records = records-came steps ∙ sym (records-came plain ∙ ap (map event_of) (records-plain (records_of steps))) in
    record {
      records = records-came steps;
      present = length-came k steps;
      least = length-least k steps;
      agree = λ one other a b. agree-led k shortest (map step_of steps) (map step_of plain) one other length records a b;
    }

pub taken-led : (k : ℕ) (earlier : List (Step Taking)) (scan : Scan) (t : Taking) → LedBy k earlier scan → LedBy k (came t ∷ earlier) (after_taking scan (event_of t))
taken-led k earlier scan t led =
    event-led k (map step_of earlier) scan (event_of t) (finite-answered t) (subst FiniteEvents (sym (records-came earlier)) (finite-takings (records_of earlier))) led

-- ---- by a prepared query

pub as-by_query : (s : Setup) (directions rotated projected : List Float) → AsByQuery s directions rotated projected
as-by_query s directions rotated projected = record { same = λ rotation matrix query prepared bytes. phased-equal-left s (lent rotation directions matrix) query prepared bytes }

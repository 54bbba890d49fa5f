-- The history of a scan: each record's bytes with what it was taken under, and so what scoring it answers; and the lengths that were asked for. Document 02, request a):
-- 'Each record comes with the setup and the query'. Assumes nothing.
use Rattle.std.specs.Prelude.{ℕ, ◌≡◌, List, map, Float}
use Rattle.setup.specs.Lent.{Lent, lent}
use Rattle.setup.specs.declared.Setup.{Setup}
use Rattle.turbo_phased.specs.Estimates.{inner_product_estimate_phased_of}
use Rattle.turbo_prepared.specs.Phases.{inner_product_estimate_prepared_phased_of}
use Rattle.turbo.specs.Prepared.{IsPrepared}
use Rattle.scan.specs.declared.Scan.{Scan}
use Rattle.scan.specs.Events.{Event}
use Rattle.scan.specs.Shortening.{Step, came, asked, records_of, length_after}
use Rattle.scan.specs.History.{Led}
use Rattle.scan.specs.AsOpened.{lengths_of, least_length, Agree}

-- This is one record's bytes with what it was taken under: a setup, what it lends and a query, or a setup, its directions and a prepared query.
pub data Taking : Type 0 where
  by_query : Setup → Lent → List Float → List ℕ → Taking
  by_prepared : Setup → List Float → List Float → List Float → List ℕ → Taking

-- This is what scoring it answers, with the phase of a refusal.
abbrev pub event_of : Taking → Event
event_of (by_query s l query bytes) = inner_product_estimate_phased_of s l query bytes
event_of (by_prepared s directions rotated projected bytes) = inner_product_estimate_prepared_phased_of s directions rotated projected bytes

-- This is a step of the history by what scoring answers.
abbrev pub step_of : Step Taking → Step Event
step_of (came t) = came (event_of t)
step_of (asked n) = asked n

-- A scan that was opened with this length took these steps, from the newest on.
abbrev pub LedBy : ℕ → List (Step Taking) → Scan → Type 0
LedBy opened steps scan = Led opened (map step_of steps) scan

-- What a history says of a scan, by its records themselves.
pub record ByRecords (opened : ℕ) (steps : List (Step Taking)) : Type 0 where
  -- In the steps by what scoring answers the records are the answers of these records, and the length in force is the same: so `Ranks` of that length and these records
  -- speaks of the hits that a scan keeps and is closed into.
  pub records : records_of (map step_of steps) ≡ map event_of (records_of steps)
  pub present : length_after opened (map step_of steps) ≡ length_after opened steps
  -- Request g): '.. as if opened with that length, whenever this was done, and several shortenings act as the least of them.'
  pub least : length_after opened steps ≡ least_length opened (lengths_of steps)
  pub agree : (one other : Scan) → LedBy opened steps one → LedBy (least_length opened (lengths_of steps)) (map came (records_of steps)) other → Agree one other

-- A record that is taken by a prepared query is taken as by the query that it was prepared from, wherever `prepare_query` answered the two lists.
pub record AsByQuery (s : Setup) (directions rotated projected : List Float) : Type 0 where
  pub same : (rotation matrix query : List Float) → IsPrepared s (lent rotation directions matrix) query rotated projected
      → (bytes : List ℕ) → event_of (by_prepared s directions rotated projected bytes) ≡ event_of (by_query s (lent rotation directions matrix) query bytes)

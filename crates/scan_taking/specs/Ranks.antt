-- What the hits of a scan tell of the records: each hit is the score of the record that took its number, hits stand by falling score and equal scores by number, and
-- demand 3 holds of any two that were taken under one setup and one query. Assumes nothing.
use Rattle.std.specs.Prelude.{ℕ, ◌+◌, ◌<◌, ◌≡◌, cond, true, List, [], ◌∷◌, map, reverse, leb, length, get_or, Float}
use Rattle.error.specs.Answer.{value, refused, withdrawn}
use Rattle.rounding.specs.Signed.{Near, Under}
use Rattle.ranking.specs.declared.Hit.{Hit}
use Rattle.ranking.specs.Ranked.{before}
use Rattle.setup.specs.Lent.{Lent}
use Rattle.setup.specs.declared.Setup.{Setup}
use Rattle.turbo.specs.Order.{Demand, at_scale, exact_of, bound_for}
use Rattle.scan.specs.Entering.{most}
use Rattle.scan.specs.Events.{Event}
use Rattle.scan.specs.History.{hits_of}
use Rattle.scan_taking.specs.Taking.{Taking, by_query, event_of}

-- One record more, where it takes a number.
abbrev pub numbered_taking : Event → Taking → List Taking → List Taking
numbered_taking (value a) t earlier = cond (leb most (length earlier)) earlier (t ∷ earlier)
numbered_taking (refused n p) t earlier = earlier
numbered_taking withdrawn t earlier = earlier

-- These are the records that took a number, from the newest on: the number of each is how many were there before it. Their answers are `numbered` of the history
-- (`alike` in `proofs/Ranks.antt`).
unfoldable pub numbered_takings : List Taking → List Taking
numbered_takings [] = []
numbered_takings (t ∷ earlier) = numbered_taking (event_of t) t (numbered_takings earlier)

-- This is the record with a number, or `noTaking` where no record took it.
abbrev pub taking_at : Taking → List Taking → ℕ → Taking
taking_at noTaking takings n = get_or (reverse (numbered_takings takings)) n noTaking

-- These are the hits of a scan of length k that took these records, and the one at a place, with `noHit` behind the last. Of a scan that was shortened k is the length
-- in force (`ByRecords`).
abbrev pub hits_by : ℕ → List Taking → List Hit
hits_by k takings = hits_of k (map event_of takings)

abbrev pub hit_by : Hit → ℕ → List Taking → ℕ → Hit
hit_by noHit k takings i = get_or (hits_by k takings) i noHit

-- This is what was answered of the record with a hit's number.
abbrev pub event_at : Taking → List Taking → Hit → Event
event_at noTaking takings h = event_of (taking_at noTaking takings h.number)

pub record Ranks (k : ℕ) (takings : List Taking) (noHit : Hit) (noTaking : Taking) : Type 0 where
  -- The number of a hit is one that a record took, and its score is that record's.
  pub taken : (i : ℕ) → i < length (hits_by k takings) → (hit_by noHit k takings i).number < length (numbered_takings takings)
  pub scored : (i : ℕ) → i < length (hits_by k takings) → event_at noTaking takings (hit_by noHit k takings i) ≡ value (value (hit_by noHit k takings i).score)
  -- 'Hits stand by falling score; equal scores, both zeros included, stand by number.'
  pub standing : (i j : ℕ) → i < j → j < length (hits_by k takings) → before (hit_by noHit k takings i) (hit_by noHit k takings j) ≡ true
  -- The score of a hit lies within its record's bound of the exact score. What is asked is that the hit's record answers what these bytes answer by this query: so of a
  -- record that was taken by it, with its own bytes, and of one that was taken by what `prepare_query` made of it (`AsByQuery`).
  pub within : (s : Setup) (l : Lent) (query : List Float) → Demand s l query → (i : ℕ) (bytes : List ℕ) → i < length (hits_by k takings)
      → event_at noTaking takings (hit_by noHit k takings i) ≡ event_of (by_query s l query bytes)
      → Near (at_scale (hit_by noHit k takings i).score) (exact_of s l query bytes) (bound_for s l query bytes)
  -- Two hits whose scores lie further apart than the sum of their bounds have exact scores in the same strict order.
  pub ordered : (s : Setup) (l : Lent) (query : List Float) → Demand s l query → (i j : ℕ) (high low : List ℕ) → i < length (hits_by k takings) → j < length (hits_by k takings)
      → event_at noTaking takings (hit_by noHit k takings i) ≡ event_of (by_query s l query high)
      → event_at noTaking takings (hit_by noHit k takings j) ≡ event_of (by_query s l query low)
      → Under (bound_for s l query low + bound_for s l query high) (at_scale (hit_by noHit k takings j).score) (at_scale (hit_by noHit k takings i).score)
      → Under 0 (exact_of s l query low) (exact_of s l query high)

-- A ceiling on the load of a scan: how many comparisons its records make. Document 02, request n): 'The server's planners need a ceiling on a scan's load.' Assumes
-- nothing.
use Rattle.std.specs.Prelude.{ℕ, ◌+◌, ◌*◌, ◌≤◌, ◌≡◌, Bool, true, false, List, [], ◌∷◌, map, T, leb, pos, length, Float}
use Rattle.std.specs.Float.{fin}
use Rattle.std.specs.Float.Ieee.Scale.{finite}
use Rattle.error.specs.Answer.{value, refused, withdrawn}
use Rattle.ranking.specs.declared.Hit.{Hit}
use Rattle.ranking.specs.Sorting.{Finites}
use Rattle.scan.specs.Entering.{most, compared_up}
use Rattle.scan.specs.Events.{Event}
use Rattle.scan.specs.Shortening.{Step, came, asked, records_of, length_after}
use Rattle.scan.specs.History.{numbered, accepted_of, kept_of, comparisons_with, comparisons_of}
use Rattle.scan.specs.AsOpened.{lengths_of, least_length}

-- What the comparisons of a history come to, for a scan that was opened with this length.
pub record Load (opened : ℕ) (steps : List (Step Event)) : Type 0 where
  -- 'Each record adds at most the length then in force'
  pub each : (e : Event) → comparisons_of opened (came e ∷ steps) ≤ comparisons_of opened steps + length_after opened steps
  -- '.. and a refused or withdrawn one none'; nor does one that is refused before it is read, or that finds no number left.
  pub refusals : (n p : ℕ) → comparisons_of opened (came (value (refused n p)) ∷ steps) ≡ comparisons_of opened steps
  pub withdrawals : comparisons_of opened (came (value withdrawn) ∷ steps) ≡ comparisons_of opened steps
  pub unread : (n p : ℕ) → comparisons_of opened (came (refused n p) ∷ steps) ≡ comparisons_of opened steps
  pub full : (e : Event) → leb most (length (numbered (records_of steps))) ≡ true → comparisons_of opened (came e ∷ steps) ≡ comparisons_of opened steps
  -- 'Shortening costs none.'
  pub shortenings : (n : ℕ) → comparisons_of opened (asked n ∷ steps) ≡ comparisons_of opened steps
  -- So all of them are at most the length that the scan was opened with for each accepted record, and fit in 64 bits: a scan has at most 64 hits and takes at most
  -- 4,294,967,295 records.
  pub all : comparisons_of opened steps ≤ length (accepted_of (numbered (records_of steps))) * opened
  pub ceiling : opened ≤ 64 → comparisons_of opened steps ≤ most * 64
  -- A new score's are those that it makes from the last hit upward. Scoring answers finite scores only.
  pub upward : (x : Float) → T (finite x) → Finites (accepted_of (numbered (records_of steps)))
      → comparisons_with x (kept_of opened steps) ≡ compared_up x (map (λ (h : Hit). h.score) (kept_of opened steps)) (length (kept_of opened steps))

-- A record with a score of this sign and size.
abbrev pub scored : Bool → ℕ → Event
scored s m = value (value (fin s m (pos 0)))

-- Records that were lent, from the newest on; from the oldest on the accepted ones have the scores −0.0, 1.0, 0.0 and 1.0.
abbrev pub first_records : List Event
first_records = scored false 1 ∷ value withdrawn ∷ scored false 0 ∷ refused 5 3 ∷ scored false 1 ∷ value (refused 14 0) ∷ scored true 0 ∷ []

-- And 1.0 once more.
abbrev pub few_records : List Event
few_records = scored false 1 ∷ first_records

-- The same records; before the last of them four lengths are asked for, from the oldest on 3, 2, 0 and 3. A scan that was opened with 3 is given the first two.
abbrev pub few_steps : List (Step Event)
few_steps = came (scored false 1) ∷ asked 3 ∷ asked 0 ∷ asked 2 ∷ asked 3 ∷ map came first_records

pub record Counted : Type 0 where
  -- For the best three −0.0 finds no hit; 1.0 beats −0.0; 0.0 is stopped by −0.0; 1.0 beats 0.0 and −0.0 and is stopped by 1.0; the last beats −0.0 and is stopped by 1.0.
  pub three : comparisons_of 3 (map came few_records) ≡ 0 + 1 + 1 + 3 + 2
  -- For the best two 0.0 is no hit, so that the 1.0 behind it beats −0.0 only, and the last is stopped at once.
  pub two : comparisons_of 2 (map came few_records) ≡ 0 + 1 + 1 + 2 + 1
  -- Shortened from three to two before the last record, the hits are those of the best two, and the comparisons are neither's.
  pub least : least_length 3 (lengths_of few_steps) ≡ 2
  pub hits : kept_of 3 few_steps ≡ kept_of 2 (map came few_records)
  pub numbers : map (λ (h : Hit). h.number) (kept_of 3 few_steps) ≡ 2 ∷ 5 ∷ []
  pub shorter : comparisons_of 3 few_steps ≡ 0 + 1 + 1 + 3 + 1

-- A scan that was shortened ends as if it had been opened with the least of its lengths. Document 02, request g): 'Its hits, and its counts of refused and withdrawn, then end
-- as if opened with that length, whenever this was done, and several shortenings act as the least of them.' Its comparisons do not: each record's are made with the length
-- then in force (`comparisons_of`; `Counted` in `Load.antt` has a case). Assumes nothing.
use Rattle.std.specs.Prelude.{ℕ, zero, suc, min, ◌≤◌, ◌≡◌, List, [], ◌∷◌, map, take}
use Rattle.error.specs.Answer.{accepted, done}
use Rattle.scan.specs.declared.Scan.{Scan}
use Rattle.scan.specs.Opening.{open_of}
use Rattle.scan.specs.Events.{Event}
use Rattle.scan.specs.Shortening.{Step, came, asked, records_of, length_after}
use Rattle.scan.specs.History.{kept_of, Led}

-- These are the lengths that were asked for, but for 0, which is always refused. One that was refused as above the length then in force is not the least.
unfoldable pub lengths_of : {A : Type 0} → List (Step A) → List ℕ
lengths_of [] = []
lengths_of (came a ∷ earlier) = lengths_of earlier
lengths_of (asked zero ∷ earlier) = lengths_of earlier
lengths_of (asked (suc n) ∷ earlier) = suc n ∷ lengths_of earlier

-- This is the least of the length that a scan was opened with and these.
unfoldable pub least_length : ℕ → List ℕ → ℕ
least_length opened [] = opened
least_length opened (n ∷ lengths) = min n (least_length opened lengths)

-- Two scans are of one length, and have the same hits and the same counts of records; how many comparisons either made is left open.
pub record Agree (one other : Scan) : Type 0 where
  pub long : one.tally.length ≡ other.tally.length
  pub kept : one.tally.kept ≡ other.tally.kept
  pub numbers : take one.tally.kept one.numbers ≡ take other.tally.kept other.numbers
  pub scores : take one.tally.kept one.scores ≡ take other.tally.kept other.scores
  pub taken : one.tally.taken ≡ other.tally.taken
  pub refusals : one.tally.refused ≡ other.tally.refused
  pub withdrawals : one.tally.withdrawn ≡ other.tally.withdrawn

-- A scan was opened with this length, and lengths were asked for between its records, at any steps.
pub record AsOpened (opened : ℕ) (steps : List (Step Event)) : Type 0 where
  -- '.. several shortenings act as the least of them'
  pub least : length_after opened steps ≡ least_length opened (lengths_of steps)
  -- A scan may be opened with the least, and its hits are the same where it is lent the same records.
  pub opens : 1 ≤ opened → opened ≤ 64 → done (open_of (least_length opened (lengths_of steps))) ≡ accepted
  pub hits : kept_of opened steps ≡ kept_of (least_length opened (lengths_of steps)) (map came (records_of steps))
  -- So the two agree. That the calls lead to such scans is what opening, taking and shortening ensure.
  pub agree : (one other : Scan) → Led opened steps one → Led (least_length opened (lengths_of steps)) (map came (records_of steps)) other → Agree one other

-- Many records are taken in one call, by a query that is prepared: the setup, its directions and the query are checked once, and then the records are taken one after
-- the other. Their bytes stand one behind the other in one list, and the end of each in another. All are taken, or none. The documents name no such call. Assumes
-- nothing.
use Rattle.std.specs.Prelude.{ℕ, ◌-◌, cond, ◌||◌, true, false, List, [], ◌∷◌, ◌++◌, map, ltb, length, take, drop, Float}
use Rattle.error.specs.Answer.{Answer, value, Check, check, first}
use Rattle.setup.specs.declared.Setup.{Setup}
use Rattle.turbo_record.specs.Scoring.{record_score_of}
use Rattle.turbo_phased.specs.Estimates.{prepared_checks}
use Rattle.scan.specs.declared.Scan.{Scan}
use Rattle.scan.specs.Entering.{most, enter_of}
use Rattle.scan_taking.specs.Taking.{Taking, by_prepared}

-- This is the record between two ends.
abbrev pub record_at : List ℕ → ℕ → ℕ → List ℕ
record_at bytes start end = take (end - start) (drop start bytes)

-- These are the records: each from the end of the one in front of it, the first from `start` on, to its own end.
unfoldable pub records_in : List ℕ → ℕ → List ℕ → List (List ℕ)
records_in bytes start [] = []
records_in bytes start (end ∷ ends) = record_at bytes start end ∷ records_in bytes end ends

-- The first end that lies before the one in front of it, or behind the bytes, is told by 5, with the end that was found as its place.
unfoldable pub wrong_ends : ℕ → ℕ → List ℕ → Check
wrong_ends long start [] = check false 5 0
wrong_ends long start (end ∷ ends) = cond (ltb end start || ltb long end) (check true 5 end) (wrong_ends long end ends)

-- 22 where fewer numbers are left than there are records; then the checks of the prepared query; then the ends.
abbrev pub many_checks : ℕ → Setup → List Float → List Float → List Float → ℕ → List ℕ → List Check
many_checks taken s directions rotated projected long ends =
    check (ltb (most - taken) (length ends)) 22 0
    ∷ prepared_checks s directions rotated projected
    ++ (wrong_ends long 0 ends ∷ [])

-- One record after the other enters the scan with its answer.
unfoldable pub entered_each : (List ℕ → Answer Float) → List (List ℕ) → Scan → Scan
entered_each score [] scan = scan
entered_each score (bytes ∷ more) scan = entered_each score more (enter_of scan (score bytes))

-- This is the scan with all the records taken, or the refusal.
unfoldable pub take_many_of : Scan → Setup → List Float → List Float → List Float → List ℕ → List ℕ → Answer Scan
take_many_of scan s directions rotated projected bytes ends =
    first
    (many_checks scan.tally.taken s directions rotated projected (length bytes) ends)
    (value (entered_each (record_score_of s directions rotated projected) (records_in bytes 0 ends) scan))

-- These are the records as the history has them, from the first on.
abbrev pub takings_of : Setup → List Float → List Float → List Float → List ℕ → List ℕ → List Taking
takings_of s directions rotated projected bytes ends = map (by_prepared s directions rotated projected) (records_in bytes 0 ends)

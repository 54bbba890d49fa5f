-- Shortening a scan that is open: what is answered and left, and the history with the lengths that were asked for. Document 02, request g): 'A scan may be given a smaller
-- length while records are still to come. .. 25 when the new length is 0 or above the present one, and the scan is unchanged.' Assumes nothing.
use Rattle.std.specs.Prelude.{ℕ, min, Bool, ◌||◌, List, [], ◌∷◌, eqb, ltb}
use Rattle.error.specs.Answer.{Answer, value, Check, check, first, after}
use Rattle.scan.specs.declared.Tally.{Tally}
use Rattle.scan.specs.declared.Scan.{Scan}
use Rattle.scan.specs.Scans.{scan_of, tally_of}

-- ---- the scan

abbrev pub bad_shorter : ℕ → ℕ → Bool
bad_shorter present n = eqb n 0 || ltb present n

abbrev pub wrong_shorter : ℕ → ℕ → Check
wrong_shorter present n = check (bad_shorter present n) 25 0

-- No more hits are kept than the new length, and what was counted stays.
abbrev pub short_tally : Tally → ℕ → Tally
short_tally tally n = tally_of n (min tally.kept n) tally.taken tally.refused tally.withdrawn tally.comparisons

-- This is the tally of the shorter scan, or its refusal.
unfoldable pub shorten_of : Tally → ℕ → Answer Tally
shorten_of tally n = first (wrong_shorter tally.length n ∷ []) (value (short_tally tally n))

-- This is the scan afterwards: its lists stay as they are, so that the hits that are gone still stand there, behind those kept.
abbrev pub after_shortening : Scan → ℕ → Scan
after_shortening scan n = scan_of (after (shorten_of scan.tally n) scan.tally) scan.numbers scan.scores

-- ---- its history

-- At each step of a history a record came, or a length was asked for.
pub data Step (A : Type 0) : Type 0 where
  came : A → Step A
  asked : ℕ → Step A

-- These are the records that came. Steps and records stand from the newest on.
abbrev pub records_of : {A : Type 0} → List (Step A) → List A
records_of [] = []
records_of (came a ∷ earlier) = a ∷ records_of earlier
records_of (asked n ∷ earlier) = records_of earlier

-- This is the length in force, of a scan that was opened with this one: a length that is refused leaves the present one.
abbrev pub length_after : {A : Type 0} → ℕ → List (Step A) → ℕ
length_after opened [] = opened
length_after opened (came a ∷ earlier) = length_after opened earlier
length_after opened (asked n ∷ earlier) = after (first (wrong_shorter (length_after opened earlier) n ∷ []) (value n)) (length_after opened earlier)

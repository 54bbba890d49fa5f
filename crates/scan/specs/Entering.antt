-- A record's answer enters a scan: what the scan holds afterwards, on any scan. Assumes nothing.
use Rattle.std.specs.Prelude.{ℕ, zero, suc, ◌+◌, ◌-◌, ◌%◌, ◌^◌, min, cond, List, ◌∷◌, ◌++◌, ltb, leb, length, take, drop, get_or, Float}
use Rattle.std.specs.Float.{nan}
use Rattle.std.specs.Float.Ieee.{lt}
use Rattle.error.specs.Answer.{Answer, value, refused, withdrawn}
use Rattle.scan.specs.declared.Tally.{Tally}
use Rattle.scan.specs.declared.Scan.{Scan}
use Rattle.scan.specs.Scans.{scan_of, tally_of}

-- '22 when the scan has already taken 4,294,967,295 records'.
abbrev pub most : ℕ
most = 4294967295

-- So many hits have room: the length, but no more than either list holds.
abbrev pub room_of : Scan → ℕ
room_of scan = min scan.tally.length (min (length scan.numbers) (length scan.scores))

-- So many hits are there.
abbrev pub held_of : Scan → ℕ
held_of scan = min scan.tally.kept (room_of scan)

-- Document 02, request n): 'A new score is compared with the kept hits from the last upward and stops at the first that it doesn't beat.' It stands behind so many of
-- the first i scores: those that it beats are passed, up to the first that it does not.
unfoldable pub place_up : Float → List Float → ℕ → ℕ
place_up x scores zero = 0
place_up x scores (suc i) = cond (lt (get_or scores i nan) x) (place_up x scores i) (suc i)

-- That takes so many comparisons: one for each score that is passed, and one for the score that stops it, where there is one.
unfoldable pub compared_up : Float → List Float → ℕ → ℕ
compared_up x scores zero = 0
compared_up x scores (suc i) = suc (cond (lt (get_or scores i nan) x) (compared_up x scores i) 0)

-- An item is put in at a place; what stood from there on moves down by one, and what stood at the last place falls out.
unfoldable pub put_in : {A : Type 0} → ℕ → ℕ → A → List A → List A
put_in at last x xs = take at xs ++ (x ∷ take (last - at) (drop at xs)) ++ drop (suc last) xs

-- One more in 32 bits.
abbrev pub one_more_number : ℕ → ℕ
one_more_number n = (n + 1) % 2 ^ 32

-- So many more in 64 bits. Where a history led to the scan, nothing is cut off (`ceiling` of `Load`).
abbrev pub many_more : ℕ → ℕ → ℕ
many_more n more = (n + more) % 2 ^ 64

-- 'all comparisons made so far', with those of a new score.
abbrev pub comparisons_after : Scan → Float → ℕ
comparisons_after scan x = many_more scan.tally.comparisons (compared_up x scan.scores (held_of scan))

-- One record more is taken; so many hits are there then, so many records refused and withdrawn, and so many comparisons made.
abbrev pub next_tally : Tally → ℕ → ℕ → ℕ → ℕ → Tally
next_tally tally kept refusals withdrawals comparisons = tally_of tally.length kept (suc tally.taken) refusals withdrawals comparisons

-- A new hit is put in, with the number that is next.
abbrev pub with_hit : Scan → ℕ → Float → Scan
with_hit scan at x =
    let last = min (held_of scan) (room_of scan - 1) in
    scan_of (next_tally scan.tally (suc last) scan.tally.refused scan.tally.withdrawn (comparisons_after scan x)) (put_in at last scan.tally.taken scan.numbers) (put_in at last x scan.scores)

-- The hits stay as they are.
abbrev pub same_hits : Scan → ℕ → ℕ → ℕ → Scan
same_hits scan refusals withdrawals comparisons = scan_of (next_tally scan.tally scan.tally.kept refusals withdrawals comparisons) scan.numbers scan.scores

-- A score whose place has room is put in there.
abbrev pub scored_in : Scan → ℕ → Float → Scan
scored_in scan at x = cond (ltb at (room_of scan)) (with_hit scan at x) (same_hits scan scan.tally.refused scan.tally.withdrawn (comparisons_after scan x))

-- The scan behind a record's answer, where it takes a number. A refused or withdrawn record is compared with no hit.
abbrev pub with_answer : Scan → Answer Float → Scan
with_answer scan (value x) = scored_in scan (place_up x scan.scores (held_of scan)) x
with_answer scan (refused n p) = same_hits scan (one_more_number scan.tally.refused) scan.tally.withdrawn scan.tally.comparisons
with_answer scan withdrawn = same_hits scan scan.tally.refused (one_more_number scan.tally.withdrawn) scan.tally.comparisons

-- A scan that has taken all the numbers stays as it is.
unfoldable pub enter_of : Scan → Answer Float → Scan
enter_of scan a = cond (leb most scan.tally.taken) scan (with_answer scan a)

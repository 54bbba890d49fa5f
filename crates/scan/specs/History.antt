-- The scan that a history leads to. A history is, from the newest on, what scoring answered of each record that was lent, with the phase of a refusal, and each length
-- that was asked for. Document 02, request a): 'Records number from 0, refused ones too. Hits stand by falling score; equal scores, both zeros included, stand by
-- number. A refused record takes its number, is counted as refused and changes nothing else .. After each record the list is what a full sort of the accepted records
-- so far would give in its first k places .. a refusal before record reading is answered, numbers nothing and leaves the scan unchanged, and any later refusal makes a
-- refused record.' Request b): 'A scan numbers it and counts it as withdrawn.' Request g): 'Its hits, and its counts of refused and withdrawn, then end as if opened with
-- that length'. Request n): 'The scan reports all comparisons made so far, which equal that rule's count after every record. .. Shortening costs none.' Assumes nothing.
use Rattle.std.specs.Prelude.{ℕ, suc, ◌+◌, ◌≤◌, ◌≡◌, cond, List, [], ◌∷◌, ◌++◌, map, leb, ltb, length, take, Float}
use Rattle.std.specs.Float.Ieee.{lt}
use Rattle.error.specs.Answer.{Answer, value, refused, withdrawn}
use Rattle.ranking.specs.declared.Hit.{Hit}
use Rattle.ranking.specs.Ranked.{sorted}
use Rattle.ranking.specs.Sorting.{count}
use Rattle.scan.specs.declared.Tally.{Tally}
use Rattle.scan.specs.declared.Scan.{Scan}
use Rattle.scan.specs.Entering.{most}
use Rattle.scan.specs.Events.{Event}
use Rattle.scan.specs.Shortening.{Step, came, asked, records_of, length_after}

-- One more answer, where it takes a number.
abbrev pub numbered_by : Event → List (Answer Float) → List (Answer Float)
numbered_by (value a) earlier = cond (leb most (length earlier)) earlier (a ∷ earlier)
numbered_by (refused n p) earlier = earlier
numbered_by withdrawn earlier = earlier

-- These are the answers of the records that took a number, from the newest on: the number of each is how many were there before it. '22 when the scan has already
-- taken 4,294,967,295 records .. the scan is then unchanged.'
unfoldable pub numbered : List Event → List (Answer Float)
numbered [] = []
numbered (e ∷ es) = numbered_by e (numbered es)

-- These are the accepted records with their numbers, from the oldest on.
unfoldable pub accepted_of : List (Answer Float) → List Hit
accepted_of [] = []
accepted_of (value x ∷ rest) = accepted_of rest ++ (record { number = length rest; score = x } ∷ [])
accepted_of (refused n p ∷ rest) = accepted_of rest
accepted_of (withdrawn ∷ rest) = accepted_of rest

-- '.. is counted as refused'.
unfoldable pub refused_of : List (Answer Float) → ℕ
refused_of [] = 0
refused_of (value x ∷ rest) = refused_of rest
refused_of (refused n p ∷ rest) = suc (refused_of rest)
refused_of (withdrawn ∷ rest) = refused_of rest

-- '.. counts it as withdrawn'.
unfoldable pub withdrawn_of : List (Answer Float) → ℕ
withdrawn_of [] = 0
withdrawn_of (value x ∷ rest) = withdrawn_of rest
withdrawn_of (refused n p ∷ rest) = withdrawn_of rest
withdrawn_of (withdrawn ∷ rest) = suc (withdrawn_of rest)

-- 'the list is what a full sort of the accepted records so far would give in its first k places'
abbrev pub hits_of : ℕ → List Event → List Hit
hits_of k es = take k (sorted (accepted_of (numbered es)))

-- These are the hits that a scan keeps which was opened with this length: those of the records that came, at the length in force.
abbrev pub kept_of : ℕ → List (Step Event) → List Hit
kept_of opened steps = hits_of (length_after opened steps) (records_of steps)

-- A score beats so many of the hits.
abbrev pub beaten_by : Float → List Hit → ℕ
beaten_by x hits = count (λ (h : Hit). lt h.score x) hits

-- A new score is compared with each hit that it beats, and with one more where a hit stops it, which is one that it does not beat. That these are the comparisons from
-- the last hit upward is `upward` of `Load`.
abbrev pub comparisons_with : Float → List Hit → ℕ
comparisons_with x hits = beaten_by x hits + cond (ltb (beaten_by x hits) (length hits)) 1 0

-- One record more adds so many comparisons: an accepted one that takes a number those of its score with the hits then kept, any other none.
abbrev pub added_by : ℕ → Event → List Event → ℕ
added_by k (value (value x)) earlier = cond (leb most (length (numbered earlier))) 0 (comparisons_with x (hits_of k earlier))
added_by k (value (refused n p)) earlier = 0
added_by k (value withdrawn) earlier = 0
added_by k (refused n p) earlier = 0
added_by k withdrawn earlier = 0

-- '.. all comparisons made so far', of a scan that was opened with this length: each record's at the length that was in force when it came.
unfoldable pub comparisons_of : ℕ → List (Step Event) → ℕ
comparisons_of opened [] = 0
comparisons_of opened (came e ∷ earlier) = comparisons_of opened earlier + added_by (length_after opened earlier) e (records_of earlier)
comparisons_of opened (asked n ∷ earlier) = comparisons_of opened earlier

-- The hits of a scan of length k are those of the records that came. Behind them its lists may hold anything.
pub record Holds (k : ℕ) (es : List Event) (scan : Scan) : Type 0 where
  pub kept : scan.tally.kept ≡ length (hits_of k es)
  pub numbers : take scan.tally.kept scan.numbers ≡ map (λ (h : Hit). h.number) (hits_of k es)
  pub scores : take scan.tally.kept scan.scores ≡ map (λ (h : Hit). h.score) (hits_of k es)

-- The counts of a scan are those of the records that came.
pub record Counts (es : List Event) (tally : Tally) : Type 0 where
  pub taken : tally.taken ≡ length (numbered es)
  pub refusals : tally.refused ≡ refused_of (numbered es)
  pub withdrawals : tally.withdrawn ≡ withdrawn_of (numbered es)

-- A scan that was opened with this length is what the history leads to. Its hits are those of the records at the length in force now, and its counts those of the
-- records; its comparisons are those of the steps, each record's at the length that was in force then.
pub record Led (opened : ℕ) (steps : List (Step Event)) (scan : Scan) : Type 0 where
  pub some : 1 ≤ opened
  pub few : opened ≤ 64
  pub long : scan.tally.length ≡ length_after opened steps
  pub numbers_room : length_after opened steps ≤ length scan.numbers
  pub scores_room : length_after opened steps ≤ length scan.scores
  pub hits : Holds (length_after opened steps) (records_of steps) scan
  pub counts : Counts (records_of steps) scan.tally
  pub comparisons : scan.tally.comparisons ≡ comparisons_of opened steps

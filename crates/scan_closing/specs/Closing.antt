-- A scan is closed into a list of hits. Document 02, request a): 'The list lent at closing is as long as the hits kept', and 6 at that length where it isn't. Closing
-- leaves the scan as it is. Assumes nothing.
use Rattle.std.specs.Prelude.{ℕ, zero, suc, ◌%◌, List, [], ◌∷◌, ◌++◌, get_or}
use Rattle.std.specs.Float.{nan}
use Rattle.error.specs.Answer.{Answer, value, first}
use Rattle.error.specs.Checks.{wrong_room}
use Rattle.ranking.specs.declared.Hit.{Hit}
use Rattle.scan.specs.declared.Scan.{Scan}

-- This is the hit at an index. A scan has 64 places; past these the indices begin anew, so that this holds of any scan that a caller may pass.
unfoldable pub hit_at_of : Scan → ℕ → Hit
hit_at_of scan i = record { number = get_or scan.numbers (i % 64) 0; score = get_or scan.scores (i % 64) nan }

-- These are the first n hits, in their order.
unfoldable pub hits_to : Scan → ℕ → List Hit
hits_to scan zero = []
hits_to scan (suc n) = hits_to scan n ++ (hit_at_of scan n ∷ [])

-- These are the hits that a scan keeps.
abbrev pub hits_in : Scan → List Hit
hits_in scan = hits_to scan scan.tally.kept

-- '6: an output buffer isn't exactly the needed length. Place: the needed length.'
unfoldable pub close_of : Scan → ℕ → Answer (List Hit)
close_of scan room = first (wrong_room room scan.tally.kept ∷ []) (value (hits_in scan))

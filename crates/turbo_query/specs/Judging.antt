-- A query that was rotated and projected is judged. Preparing and scoring share it; no promise of document 01 is stated by it. Assumes nothing.
use Rattle.std.specs.Prelude.{Bool, false, cond, ◌&&◌, List, [], ◌∷◌, Float}
use Rattle.error.specs.Answer.{Answer, value, refused, withdrawn, Check, first, each, accepted, clear}
use Rattle.error.specs.Checks.{bad_value}
use Rattle.setup.specs.Lent.{Lent}
use Rattle.setup.specs.declared.Setup.{Setup}
use Rattle.qjl.specs.Sketch.{vector_checks}

-- 'rotated 11, projected 11': the values of the query rotated, then those of the query projected.
abbrev pub query_value_checks : List Float → List Float → List Check
query_value_checks rotated projected = each bad_value 11 rotated ∷ each bad_value 11 projected ∷ []

-- A call was done, and all values of both lists are finite.
abbrev pub is_clean : Answer (Unit {0}) → List Float → List Float → Bool
is_clean (value x) rotated projected = clear bad_value rotated && clear bad_value projected
is_clean (refused n p) rotated projected = false
is_clean withdrawn rotated projected = false

-- This is an answer without a value, and behind it another.
abbrev pub and_then : {A : Type 0} → Answer (Unit {0}) → Answer A → Answer A
and_then (value x) a = a
and_then (refused n p) a = refused n p
and_then withdrawn a = withdrawn

-- Turning a query was answered `said`, and these are the values then. Where that was done and they are all finite, nothing is refused; else the query's own checks come first,
-- then what turning it said, then the values.
unfoldable pub judged_of : Setup → Lent → List Float → Answer (Unit {0}) → List Float → List Float → Answer (Unit {0})
judged_of s l query said rotated projected =
    cond (is_clean said rotated projected) accepted (first (vector_checks s l query) (and_then said (first (query_value_checks rotated projected) accepted)))

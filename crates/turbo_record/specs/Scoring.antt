-- This is the score of a record under a setup, from a query that is rotated and projected. Document 01: '.. record reading, 5, 20, then 12.' Document 02: 'scoring
-- answers withdrawn in place of a score, after the query's checks'. Assumes nothing.
use Rattle.std.specs.Prelude.{ℕ, List, [], ◌∷◌, ◌++◌, Float}
use Rattle.error.specs.Answer.{Answer, value, Check, first}
use Rattle.setup.specs.declared.Setup.{Setup}
use Rattle.error.specs.Checks.{wrong_score}
use Rattle.packed.specs.Reading.{unless_withdrawn}
use Rattle.turbo_order.specs.Scores.{score_from}
use Rattle.turbo_opening.specs.Opening.{content_of, open_checks}

-- This is the score itself, before any check.
abbrev pub record_score : Setup → List Float → List Float → List Float → List ℕ → Float
record_score s directions rotated projected bytes = score_from s directions rotated projected (content_of bytes)

-- These are the checks 'record reading, 5, 20, then 12', where the score is x.
abbrev pub reading_checks : Setup → List ℕ → Float → List Check
reading_checks s bytes x = open_checks s bytes ++ (wrong_score x ∷ [])

-- From record reading on, `a` is answered of a record whose score is x: withdrawn comes before all checks of the record.
abbrev pub since_reading : {A : Type 0} → Setup → List ℕ → Float → Answer A → Answer A
since_reading s bytes x a = unless_withdrawn bytes (first (reading_checks s bytes x) a)

-- This is the answer from record reading on, by a query that is rotated and projected.
unfoldable pub record_score_of : Setup → List Float → List Float → List Float → List ℕ → Answer Float
record_score_of s directions rotated projected bytes = since_reading s bytes (record_score s directions rotated projected bytes) (value (record_score s directions rotated projected bytes))

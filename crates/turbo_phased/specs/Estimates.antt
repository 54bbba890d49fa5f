-- This is the score of a record under a setup and a query, and by a prepared query. Document 01: 'Scoring follows `TurboQuantizer::inner_product_estimate`: setup,
-- query length 5, query 11, rotated 11, projected 11, record reading, 5, 20, then 12.' Document 02: 'scoring answers withdrawn in place of a score, after the query's
-- checks.' Assumes nothing.
use Rattle.std.specs.Prelude.{ℕ, List, [], ◌∷◌, ◌++◌, length, Float, Result, Ok, Err}
use Rattle.error.specs.Answer.{Answer, value, refused, withdrawn, Check, first, each}
use Rattle.error.specs.Checks.{wrong_input, bad_value}
use Rattle.error.specs.Refusals.{number_of, place_of}
use Rattle.error.specs.Outcomes.{says_score}
use Rattle.error.specs.declared.Refusal.{Refusal}
use Rattle.error.specs.declared.Scored.{Scored}
use Rattle.setup.specs.Lent.{Lent}
use Rattle.setup.specs.declared.Setup.{Setup}
use Rattle.setup.specs.Setups.{counted_projections_of}
use Rattle.setup.specs.Checks.{scalar_checks}
use Rattle.setup_tables.specs.Checks.{direction_checks}
use Rattle.turbo_order.specs.Scores.{score_of}
use Rattle.turbo_query.specs.Query.{query_checks}
use Rattle.turbo_opening.specs.Opening.{content_of}
use Rattle.turbo_record.specs.Scoring.{record_score, since_reading}

-- ---- by a query

-- This is the score of a record's bytes, before any check.
abbrev pub estimate : Setup → Lent → List Float → List ℕ → Float
estimate s l query bytes = score_of s l query (content_of bytes)

-- Behind all that scoring asks, `a` is answered: 'setup, query length 5, query 11, rotated 11, projected 11', withdrawn, 'record reading, 5, 20, then 12'.
abbrev pub where_scored : {A : Type 0} → Setup → Lent → List Float → List ℕ → Answer A → Answer A
where_scored s l query bytes a = first (query_checks s l query) (since_reading s bytes (estimate s l query bytes) a)

unfoldable pub inner_product_estimate_of : Setup → Lent → List Float → List ℕ → Answer Float
inner_product_estimate_of s l query bytes = where_scored s l query bytes (value (estimate s l query bytes))

-- ---- with the phase of a refusal

-- The outer answer refuses before the record is read; the inner one is the answer from its reading on, which may be withdrawn.
abbrev pub says_phased : Result Scored Refusal → Answer (Answer Float)
says_phased (Ok scored) = value (says_score scored)
says_phased (Err r) = refused (number_of r) (place_of r)

unfoldable pub inner_product_estimate_phased_of : Setup → Lent → List Float → List ℕ → Answer (Answer Float)
inner_product_estimate_phased_of s l query bytes = first (query_checks s l query) (value (since_reading s bytes (estimate s l query bytes) (value (estimate s l query bytes))))

-- This is an answer without the phase of its refusal.
abbrev pub joined : {A : Type 0} → Answer (Answer A) → Answer A
joined (value a) = a
joined (refused n p) = refused n p
joined withdrawn = withdrawn

-- ---- by a prepared query, which needs neither what the rotation is lent nor the matrix

-- The two lengths are checked, 5, then the values of either list, 11.
abbrev pub lengths_and_values : Setup → List Float → List Float → List Check
lengths_and_values s rotated projected =
    wrong_input (length rotated) s.dim
    ∷ wrong_input (length projected) (counted_projections_of s)
    ∷ each bad_value 11 rotated
    ∷ each bad_value 11 projected
    ∷ []

-- Of the setup the scalars and the directions are checked, then what is asked of the prepared query.
abbrev pub prepared_checks : Setup → List Float → List Float → List Float → List Check
prepared_checks s directions rotated projected = scalar_checks s ++ direction_checks s directions ++ lengths_and_values s rotated projected

unfoldable pub inner_product_estimate_prepared_of : Setup → List Float → List Float → List Float → List ℕ → Answer Float
inner_product_estimate_prepared_of s directions rotated projected bytes =
    first (prepared_checks s directions rotated projected) (since_reading s bytes (record_score s directions rotated projected bytes) (value (record_score s directions rotated projected bytes)))

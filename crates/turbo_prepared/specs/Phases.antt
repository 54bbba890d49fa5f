-- This is the score of a record by a prepared query, with the phase of a refusal. Document 02: 'a refusal before record reading is answered, numbers nothing and
-- leaves the scan unchanged, and any later refusal makes a refused record.' Assumes nothing.
use Rattle.std.specs.Prelude.{ℕ, List, Float}
use Rattle.error.specs.Answer.{Answer, value, first}
use Rattle.setup.specs.declared.Setup.{Setup}
use Rattle.turbo_record.specs.Scoring.{record_score_of}
use Rattle.turbo_phased.specs.Estimates.{prepared_checks}

-- The outer answer refuses before the record is read; the inner one is the answer from its reading on, which may be withdrawn.
unfoldable pub inner_product_estimate_prepared_phased_of : Setup → List Float → List Float → List Float → List ℕ → Answer (Answer Float)
inner_product_estimate_prepared_phased_of s directions rotated projected bytes = first (prepared_checks s directions rotated projected) (value (record_score_of s directions rotated projected bytes))

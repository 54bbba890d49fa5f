-- Request e) of document 02 moves the distance where a record is scored and its sum is NaN, and nothing else: 'Document 01's distance rule is amended; equality with
-- `l2_distance_estimate` is kept for sums that are numbers.' Document 01's rule stands here, behind the checks of scoring as they are now, and the call's definition is
-- held against it. Assumes nothing.
use Rattle.std.specs.Prelude.{ℕ, ◌≡◌, true, false, List, Float}
use Rattle.std.specs.Float.{inf}
use Rattle.std.specs.Float.Ieee.{is_nan}
use Rattle.error.specs.Answer.{Answer, value, refused, withdrawn}
use Rattle.error.specs.Checks.{finite_score_of}
use Rattle.float.specs.Constants.{pos_zero}
use Rattle.setup.specs.Lent.{Lent}
use Rattle.setup.specs.declared.Setup.{Setup}
use Rattle.packed.specs.Reading.{radii_of}
use Rattle.turbo_distance.specs.Distance.{distance_sum, cut_at_zero}
use Rattle.turbo_phased.specs.Estimates.{estimate, where_scored, inner_product_estimate_of}
use Rattle.turbo.specs.Distance.{l2_distance_estimate_of}
use Rattle.turbo.specs.Order.{IsScored}

-- This is the sum of a record's distance, 'both squared norms, less 2 × score'; where the record is scored, the score is the one that is answered.
abbrev pub record_sum : Setup → Lent → List Float → List ℕ → Float
record_sum s l query bytes = distance_sum query (radii_of bytes) (estimate s l query bytes)

-- Document 01: 'Distance equals `TurboQuantizer::l2_distance_estimate`: both squared norms, less 2 × score, and 0 where that is not greater than zero, minus infinity
-- included, or is NaN; plus infinity is 12.' Of a withdrawn position it says what scoring says.
unfoldable pub former_distance_of : Setup → Lent → List Float → List ℕ → Answer Float
former_distance_of s l query bytes = where_scored s l query bytes (finite_score_of (cut_at_zero (record_sum s l query bytes)))

pub record Amended : Type 0 where
  -- 'equality with `l2_distance_estimate` is kept for sums that are numbers': an infinity is a number.
  pub number_kept : (s : Setup) (l : Lent) (query : List Float) (bytes : List ℕ) → is_nan (record_sum s l query bytes) ≡ false
      → l2_distance_estimate_of s l query bytes ≡ former_distance_of s l query bytes
  -- Where scoring is refused, with its own 12 or another number, that refusal is the distance's, whatever the sum is: now and before.
  pub score_first : (s : Setup) (l : Lent) (query : List Float) (bytes : List ℕ) (n p : ℕ) → inner_product_estimate_of s l query bytes ≡ refused n p
      → l2_distance_estimate_of s l query bytes ≡ refused n p
  pub score_first_before : (s : Setup) (l : Lent) (query : List Float) (bytes : List ℕ) (n p : ℕ) → inner_product_estimate_of s l query bytes ≡ refused n p
      → former_distance_of s l query bytes ≡ refused n p
  -- Where scoring answers withdrawn, so does the distance, whatever the sum is.
  pub withdrawn_first : (s : Setup) (l : Lent) (query : List Float) (bytes : List ℕ) → inner_product_estimate_of s l query bytes ≡ withdrawn
      → l2_distance_estimate_of s l query bytes ≡ withdrawn
  pub withdrawn_first_before : (s : Setup) (l : Lent) (query : List Float) (bytes : List ℕ) → inner_product_estimate_of s l query bytes ≡ withdrawn
      → former_distance_of s l query bytes ≡ withdrawn
  -- 'a distance whose sum is NaN before the cut to zero is 12', where the record is scored; before it was 0.
  pub nan_refused : (s : Setup) (l : Lent) (query : List Float) (bytes : List ℕ) (x : Float) → IsScored s l query bytes x
      → is_nan (record_sum s l query bytes) ≡ true → l2_distance_estimate_of s l query bytes ≡ refused 12 0
  pub nan_before : (s : Setup) (l : Lent) (query : List Float) (bytes : List ℕ) (x : Float) → IsScored s l query bytes x
      → is_nan (record_sum s l query bytes) ≡ true → former_distance_of s l query bytes ≡ value pos_zero
  -- '0 where that is not greater than zero, minus infinity included'.
  pub lowest_zero : (s : Setup) (l : Lent) (query : List Float) (bytes : List ℕ) (x : Float) → IsScored s l query bytes x
      → record_sum s l query bytes ≡ inf true → l2_distance_estimate_of s l query bytes ≡ value pos_zero
  -- 'plus infinity is 12'.
  pub highest_refused : (s : Setup) (l : Lent) (query : List Float) (bytes : List ℕ) (x : Float) → IsScored s l query bytes x
      → record_sum s l query bytes ≡ inf false → l2_distance_estimate_of s l query bytes ≡ refused 12 0

-- What request e) moves and what it leaves: behind the checks of scoring the sum decides, and only a sum that is NaN has another answer than it had. Assumes
-- nothing.
use Prim.Native.Nat.{ℕ}
use mathlib.Core.Path.{◌≡◌, ap, ◌∙◌}
use mathlib.Core.Bool.{false}
use mathlib.Core.List.{List}
use lib.Ieee.{Float, is_nan}
use Rattle.error.specs.Answer.{Answer, refused, withdrawn}
use Rattle.error.specs.Checks.{finite_score_of}
use Rattle.float.proofs.Nan.{nan-only}
use Rattle.setup.specs.Lent.{Lent}
use Rattle.setup.specs.declared.Setup.{Setup}
use Rattle.turbo_distance.specs.Distance.{cut_at_zero, distance_by_sum}
use Rattle.turbo_distance.proofs.Answers.{by-sum-nan, by-sum-number, by-sum-lowest, by-sum-highest, cut-nan}
use Rattle.turbo_phased.specs.Estimates.{where_scored, inner_product_estimate_of}
use Rattle.turbo.specs.Distance.{l2_distance_estimate_of}
use Rattle.turbo.specs.Order.{IsScored}
use Rattle.turbo.proofs.Answers.{behind-refused, behind-withdrawn, behind-scored, distance-refused, distance-withdrawn}
use Rattle.turbo_laws.specs.Amended.{record_sum, former_distance_of, Amended}

-- a distance by its sum, as it was
abbrev former_by_sum : Float → Answer Float
former_by_sum x = finite_score_of (cut_at_zero x)

module _ (s : Setup) (l : Lent) (query : List Float) (bytes : List ℕ) where
  number_kept : is_nan (record_sum s l query bytes) ≡ false → l2_distance_estimate_of s l query bytes ≡ former_distance_of s l query bytes
  unfolding l2_distance_estimate_of former_distance_of
  number_kept h = ap (where_scored s l query bytes) (by-sum-number (record_sum s l query bytes) h)

  refused-before : (n p : ℕ) → inner_product_estimate_of s l query bytes ≡ refused n p → former_distance_of s l query bytes ≡ refused n p
  unfolding former_distance_of
  refused-before n p e = behind-refused s l query bytes (former_by_sum (record_sum s l query bytes)) e

  withdrawn-before : inner_product_estimate_of s l query bytes ≡ withdrawn → former_distance_of s l query bytes ≡ withdrawn
  unfolding former_distance_of
  withdrawn-before e = behind-withdrawn s l query bytes (former_by_sum (record_sum s l query bytes)) e

  -- where the record is scored, the sum decides
  module _ (x : Float) (scored : IsScored s l query bytes x) where
    by-sum : l2_distance_estimate_of s l query bytes ≡ distance_by_sum (record_sum s l query bytes)
    unfolding l2_distance_estimate_of
    by-sum = behind-scored s l query bytes (distance_by_sum (record_sum s l query bytes)) scored

    by-sum-before : former_distance_of s l query bytes ≡ former_by_sum (record_sum s l query bytes)
    unfolding former_distance_of
    by-sum-before = behind-scored s l query bytes (former_by_sum (record_sum s l query bytes)) scored

pub amended : Amended
amended = record {
  number_kept = number_kept;
  score_first = λ s l query bytes n p e. distance-refused s l query bytes e;
  score_first_before = refused-before;
  withdrawn_first = distance-withdrawn;
  withdrawn_first_before = withdrawn-before;
  nan_refused = λ s l query bytes x scored h. by-sum s l query bytes x scored ∙ by-sum-nan (record_sum s l query bytes) h;
  nan_before = λ s l query bytes x scored h. by-sum-before s l query bytes x scored ∙ ap former_by_sum (nan-only (record_sum s l query bytes) h) ∙ cut-nan;
  lowest_zero = λ s l query bytes x scored e. by-sum s l query bytes x scored ∙ ap distance_by_sum e ∙ by-sum-lowest;
  highest_refused = λ s l query bytes x scored e. by-sum s l query bytes x scored ∙ ap distance_by_sum e ∙ by-sum-highest;
}

-- This is demand 3, as one claim with both its halves: for every setup and query, and any two records scored under them, whoever wrote their bytes, each score lies
-- within its bound of its exact score, and scores further apart than the sum of their bounds have exact scores in the same strict order. Score, exact score and
-- bound are whole numbers at one fixed scale, 2 ^ -619. Assumes nothing.
use Rattle.std.specs.Prelude.{ℕ, ◌+◌, ◌≡◌, List, Float}
use Rattle.error.specs.Answer.{value}
use Rattle.rounding.specs.Signed.{Diff, Near, Under, ◌⊙◌}
use Rattle.rounding.specs.Value.{val}
use Rattle.setup.specs.Lent.{Lent}
use Rattle.setup.specs.declared.Setup.{Setup}
use Rattle.turbo_order.specs.Scores.{per_unit, scaled_exact, score_bound}
use Rattle.turbo_opening.specs.Opening.{content_of}
use Rattle.turbo_phased.specs.Estimates.{inner_product_estimate_of}

-- 'A record counts as scored under a setup and a query where scoring it under them answers a number with its value.'
abbrev pub IsScored : Setup → Lent → List Float → List ℕ → Float → Type 0
IsScored s l query bytes x = inner_product_estimate_of s l query bytes ≡ value x

-- These three are a score, the exact score of a record, and its bound, at the scale 2 ^ -619.
abbrev pub at_scale : Float → Diff
at_scale x = per_unit ⊙ val x

abbrev pub exact_of : Setup → Lent → List Float → List ℕ → Diff
exact_of s l query bytes = scaled_exact s l query (content_of bytes)

abbrev pub bound_for : Setup → Lent → List Float → List ℕ → ℕ
bound_for s l query bytes = score_bound s l query (content_of bytes)

pub record Demand (s : Setup) (l : Lent) (query : List Float) : Type 0 where
  -- 'That score lies within its bound where it differs from its exact score by at most the bound.'
  pub within : (bytes : List ℕ) (x : Float) → IsScored s l query bytes x → Near (at_scale x) (exact_of s l query bytes) (bound_for s l query bytes)
  -- Where x lies below y by more than the sum of the bounds, the exact score of the one lies below that of the other.
  pub ordered : (low high : List ℕ) (x y : Float) → IsScored s l query low x → IsScored s l query high y
      → Under (bound_for s l query low + bound_for s l query high) (at_scale x) (at_scale y)
      → Under 0 (exact_of s l query low) (exact_of s l query high)

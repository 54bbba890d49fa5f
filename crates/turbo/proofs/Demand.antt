-- Demand 3 holds: a record that is scored under a setup and a query is one that the bound speaks of, and its score is finite. Nothing is asked but that the
-- lent floats are f32. Assumes nothing.
use Prim.Native.Nat.{ℕ, ◌+◌, ◌*◌}
use mathlib.Core.Path.{◌≡◌, ◌∙◌, subst}
use mathlib.Core.List.{List}
use lib.Dec.{T}
use lib.ListN.{length}
use lib.Ieee.{Float, nan}
use lib.Ieee.Scale.{finite}
use Rattle.error.specs.Answer.{value, first, accepted}
use Rattle.error.proofs.Chains.{first-clear, first_ends, append_left}
use Rattle.rounding.specs.Signed.{Near, Under}
use Rattle.rounding.proofs.Close.{AllFit}
use Rattle.rounding.proofs.Folds.{all-fit-from}
use Rattle.setup.specs.Lent.{Lent}
use Rattle.setup.specs.declared.Setup.{Setup}
use Rattle.qjl.specs.Sketch.{vector_checks}
use Rattle.qjl.proofs.Answers.{vector-setup, vector-rowed}
use Rattle.packed.specs.Layout.{header_of}
use Rattle.packed.specs.Reading.{radii_of}
use Rattle.packed.proofs.Radii.{radii_fit, length-signs_of, signs_good, norm_fits}
use Rattle.turbo_order.proofs.Sound.{Sound}
use Rattle.turbo_order.specs.Scores.{account_of, score_of}
use Rattle.turbo_order.proofs.Within.{Scorable, score_within, scores-ordered}
use Rattle.turbo_order.proofs.Rotations.{account-sound}
use Rattle.turbo_query.specs.Query.{finite_checks, query_checks}
use Rattle.turbo_opening.specs.Opening.{content_of}
use Rattle.turbo_opening.specs.Inner.{opened_of}
use Rattle.turbo_opening.proofs.Answers.{opened-projections}
use Rattle.turbo_record.specs.Scoring.{since_reading}
use Rattle.turbo_phased.specs.Estimates.{estimate, inner_product_estimate_of}
use Rattle.turbo.proofs.Since.{since-open, since-pairs, since-value, since-finite}
use Rattle.turbo.specs.Order.{IsScored, at_scale, exact_of, bound_for, Demand}

-- ---- a record that is scored

module _ (s : Setup) (l : Lent) (query : List Float) (bytes : List ℕ) {x : Float} (scored : IsScored s l query bytes x) where
  -- the checks of the setup and the query pass
  scored-query : first (query_checks s l query) accepted ≡ accepted
  unfolding inner_product_estimate_of
  scored-query = first-clear (query_checks s l query) _ scored

  scored-vector : first (vector_checks s l query) accepted ≡ accepted
  scored-vector = append_left (vector_checks s l query) (finite_checks s l query) accepted scored-query

  -- from its reading on the record is answered a value
  scored-since : since_reading s bytes (estimate s l query bytes) (value (estimate s l query bytes)) ≡ value x
  unfolding inner_product_estimate_of
  scored-since = first_ends (query_checks s l query) _ scored

  pub scored-open : opened_of s bytes ≡ value (header_of bytes)
  scored-open = since-open s bytes (estimate s l query bytes) scored-since

  pub scored-pairs : 2 * length (radii_of bytes) ≡ s.dim
  scored-pairs = since-pairs s bytes (estimate s l query bytes) scored-since

  pub scored-estimate : estimate s l query bytes ≡ x
  scored-estimate = since-value s bytes (estimate s l query bytes) scored-since

  pub scored-finite : T (finite (estimate s l query bytes))
  scored-finite = since-finite s bytes (estimate s l query bytes) scored-since

  module _ (rotation-fit : AllFit l.rotation) (directions_fit : AllFit l.directions) (matrix_fit : AllFit l.matrix) (query_fit : AllFit query) where
    scored-sound : Sound s.dim (account_of s l query)
    scored-sound =
        account-sound s l query (vector-setup s l query scored-vector)
        (vector-rowed s l query scored-vector).query_long rotation-fit query_fit

    scored-scorable : Scorable s l query (content_of bytes)
    scored-scorable =
        let setup = vector-setup s l query scored-vector in
        record {
          usable = setup.usable;
          table = setup.table;
          directions_fit = directions_fit;
          matrix_fit = matrix_fit;
          query_fit = query_fit;
          radii_fit = all-fit-from (radii_of bytes) nan (radii_fit bytes);
          radii_long = scored-pairs;
          marks_long = length-signs_of bytes ∙ opened-projections s bytes scored-open;
          marks_good = signs_good bytes;
          norm_fits = norm_fits bytes;
        }

-- ---- demand 3

module _ (s : Setup) (l : Lent) (query : List Float) (rotation-fit : AllFit l.rotation) (directions_fit : AllFit l.directions) (matrix_fit : AllFit l.matrix) (query_fit : AllFit query) where
  demand-within : (bytes : List ℕ) (x : Float) → IsScored s l query bytes x → Near (at_scale x) (exact_of s l query bytes) (bound_for s l query bytes)
  unfolding score_of
  demand-within bytes x scored =
      subst (λ (y : Float). Near (at_scale y) (exact_of s l query bytes) (bound_for s l query bytes)) (scored-estimate s l query bytes scored)
      (score_within (account_of s l query) s l query (content_of bytes) (scored-sound s l query bytes scored rotation-fit directions_fit matrix_fit query_fit)
      (scored-scorable s l query bytes scored rotation-fit directions_fit matrix_fit query_fit) (scored-finite s l query bytes scored))

  demand-ordered : (low high : List ℕ) (x y : Float) → IsScored s l query low x → IsScored s l query high y → Under (bound_for s l query low + bound_for s l query high) (at_scale x) (at_scale y) → Under 0 (exact_of s l query low) (exact_of s l query high)
  unfolding score_of
  demand-ordered low high x y below above apart =
      scores-ordered (account_of s l query) s l query (content_of low) (content_of high) (scored-sound s l query low below rotation-fit directions_fit matrix_fit query_fit)
      (scored-scorable s l query low below rotation-fit directions_fit matrix_fit query_fit) (scored-scorable s l query high above rotation-fit directions_fit matrix_fit query_fit) (scored-finite s l query low below) (scored-finite s l query high above)
      (rw (scored-estimate s l query low below, scored-estimate s l query high above) apart)

  pub demand : Demand s l query
  demand = record { within = demand-within; ordered = demand-ordered }

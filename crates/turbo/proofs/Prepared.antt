-- Scoring by a prepared query equals scoring by the query: what `prepare_query` answers passes the checks of a prepared query, and the score is the same.
-- So demand 3 holds of it too, and with the phase of a refusal both answers are the same. Assumes nothing.
use Prim.Native.Nat.{ℕ}
use mathlib.Core.Path.{◌≡◌, sym, ap, ◌∙◌}
use mathlib.Core.List.{List, [], ◌∷◌}
use lib.ListN.{length}
use lib.Ieee.{Float, nan}
use Rattle.error.specs.Answer.{value, first, each, accepted}
use Rattle.error.specs.Checks.{wrong_input, wrong_room, bad_value}
use Rattle.error.proofs.Chains.{first_passes, first-accepts, first-clear, first-value, append_left, append_right}
use Rattle.error.proofs.Differs.{differs-not}
use Rattle.rounding.proofs.Folds.{all-fit-from}
use Rattle.setup.specs.Lent.{Lent, lent}
use Rattle.setup.specs.declared.Setup.{Setup}
use Rattle.setup.specs.Setups.{counted_projections_of}
use Rattle.setup_tables.specs.Checks.{setup_checks}
use Rattle.setup_tables.proofs.Accepted.{setup-scalars, setup-directions}
use Rattle.setup_rotation.proofs.Rotations.{length-rotated_by}
use Rattle.qjl.specs.Sketch.{vector_checks}
use Rattle.qjl.proofs.Answers.{vector-setup, vector-rowed}
use Rattle.turbo_query.specs.Query.{rotated_query, projected_query, finite_checks, query_checks, prepare_checks, prepare_rotated_of, prepare_projected_of}
use Rattle.turbo_phased.specs.Estimates.{prepared_checks, inner_product_estimate_of, inner_product_estimate_phased_of, inner_product_estimate_prepared_of, lengths_and_values}
use Rattle.turbo_phased.proofs.Answers.{phased-passed}
use Rattle.turbo_prepared.specs.Phases.{inner_product_estimate_prepared_phased_of}
use Rattle.turbo_prepared.proofs.Answers.{ready-rest, prepared-passed, prepared-phased-passed}
use Rattle.turbo.specs.Prepared.{IsPrepared, Prepared}
use Rattle.float.specs.Bytes.{AreFloats}
use Rattle.turbo.proofs.Demand.{demand}
use Rattle.turbo.proofs.Answers.{estimate-passed}
use Rattle.rounding.proofs.Rows.{length-projected}

module _ (s : Setup) (l : Lent) (query : List Float) (passed : first (query_checks s l query) accepted ≡ accepted) where
  vector-clear : first (vector_checks s l query) accepted ≡ accepted
  vector-clear = append_left (vector_checks s l query) (finite_checks s l query) accepted passed

  setup-clear : first (setup_checks s l) accepted ≡ accepted
  setup-clear = append_left (setup_checks s l) (wrong_input (length query) s.dim ∷ each bad_value 11 query ∷ []) accepted vector-clear

  rotated_long : length (rotated_query s l query) ≡ s.dim
  rotated_long = length-rotated_by s l.rotation query (vector-rowed s l query vector-clear).query_long (vector-setup s l query vector-clear).rotation_long

  -- a query that passes its checks passes them prepared
  pub passed-ready : first (prepared_checks s l.directions (rotated_query s l query) (projected_query s l query)) accepted ≡ accepted
  passed-ready =
      let k = first_passes (finite_checks s l query) tt (append_right (vector_checks s l query) (finite_checks s l query) accepted passed) in
      ready-rest s l.directions (rotated_query s l query) (projected_query s l query) (setup-scalars s l setup-clear) (setup-directions s l setup-clear)
      ∙ first-accepts (lengths_and_values s (rotated_query s l query) (projected_query s l query)) accepted (
        differs-not (length (rotated_query s l query)) s.dim rotated_long,
        (differs-not (length (projected_query s l query)) (counted_projections_of s) (length-projected s.dim (counted_projections_of s) l.matrix query), k),
      )

  -- Prepared once, a query gives each record the answer that it has without: a value, a refusal or withdrawn.
  pub estimate-equal-prepared : (bytes : List ℕ) → inner_product_estimate_prepared_of s l.directions (rotated_query s l query) (projected_query s l query) bytes ≡ inner_product_estimate_of s l query bytes
  estimate-equal-prepared bytes =
      prepared-passed s l.directions (rotated_query s l query) (projected_query s l query) bytes passed-ready ∙ sym (estimate-passed s l query bytes passed)

  -- a refusal comes in the same phase
  pub phased-equal-prepared : (bytes : List ℕ) → inner_product_estimate_prepared_phased_of s l.directions (rotated_query s l query) (projected_query s l query) bytes ≡ inner_product_estimate_phased_of s l query bytes
  phased-equal-prepared bytes =
      prepared-phased-passed s l.directions (rotated_query s l query) (projected_query s l query) bytes passed-ready ∙ sym (phased-passed s l query bytes passed)

-- So do the lists that `prepare_query` has answered, and demand 3 is that of the query.
module _ (s : Setup) (l : Lent) (query : List Float) {xs ys : List Float} (prepared : IsPrepared s l query xs ys) where
  prepared-clear : first (prepare_checks s l query prepared.room prepared.space) accepted ≡ accepted
  unfolding prepare_rotated_of
  prepared-clear = first-clear (prepare_checks s l query prepared.room prepared.space) (value (rotated_query s l query)) prepared.rotated_is

  prepared-query : first (query_checks s l query) accepted ≡ accepted
  prepared-query = append_left (query_checks s l query) (wrong_room prepared.room s.dim ∷ wrong_room prepared.space (counted_projections_of s) ∷ []) accepted prepared-clear

  prepared-rotated : rotated_query s l query ≡ xs
  unfolding prepare_rotated_of
  prepared-rotated = first-value (prepare_checks s l query prepared.room prepared.space) (rotated_query s l query) prepared.rotated_is

  prepared-projected : projected_query s l query ≡ ys
  unfolding prepare_projected_of
  prepared-projected = first-value (prepare_checks s l query prepared.room prepared.space) (projected_query s l query) prepared.projected_is

  estimate-equal-left : (bytes : List ℕ) → inner_product_estimate_prepared_of s l.directions xs ys bytes ≡ inner_product_estimate_of s l query bytes
  estimate-equal-left bytes =
      ap (λ (ts : List Float). inner_product_estimate_prepared_of s l.directions ts ys bytes) (sym prepared-rotated)
      ∙ ap (λ (rs : List Float). inner_product_estimate_prepared_of s l.directions (rotated_query s l query) rs bytes) (sym prepared-projected)
      ∙ estimate-equal-prepared s l query prepared-query bytes

  pub phased-equal-left : (bytes : List ℕ) → inner_product_estimate_prepared_phased_of s l.directions xs ys bytes ≡ inner_product_estimate_phased_of s l query bytes
  phased-equal-left bytes =
      ap (λ (ts : List Float). inner_product_estimate_prepared_phased_of s l.directions ts ys bytes) (sym prepared-rotated)
      ∙ ap (λ (rs : List Float). inner_product_estimate_prepared_phased_of s l.directions (rotated_query s l query) rs bytes) (sym prepared-projected)
      ∙ phased-equal-prepared s l query prepared-query bytes

pub prepared-stands : (s : Setup) (directions rotated projected : List Float) → AreFloats directions → Prepared s directions rotated projected
prepared-stands s directions rotated projected fit =
    record {
      same = λ rotation matrix query prepared bytes. estimate-equal-left s (lent rotation directions matrix) query prepared bytes;
      demanded = λ rotation matrix query prepared rotation-fit matrix_fit query_fit.
          demand s (lent rotation directions matrix) query (all-fit-from rotation nan rotation-fit) (all-fit-from directions nan fit) (all-fit-from matrix nan matrix_fit) (all-fit-from query nan query_fit);
    }

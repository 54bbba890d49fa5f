-- The answers by a prepared query, case by case, from what its checks find: of its own checks, of a score, and of a score with its phase. Assumes nothing.
use Prim.Native.Nat.{ℕ}
use mathlib.Core.Path.{◌≡◌, sym, ◌∙◌}
use mathlib.Core.List.{List, ◌++◌}
use borrow.Author.Tests.{eq-eqb, ne_eqb}
use lib.ListN.{length}
use lib.Ieee.{Float}
use Rattle.error.specs.Answer.{value, refused, first, accepted}
use Rattle.error.proofs.Chains.{first-passed, first-refused, append_left, append-passed, append-refused}
use Rattle.setup.specs.declared.Setup.{Setup}
use Rattle.setup.specs.Setups.{counted_projections_of}
use Rattle.setup.specs.Checks.{scalar_checks}
use Rattle.setup_tables.specs.Checks.{direction_checks}
use Rattle.turbo_query.specs.Judging.{query_value_checks}
use Rattle.turbo_record.specs.Scoring.{record_score_of}
use Rattle.turbo_phased.specs.Estimates.{prepared_checks, inner_product_estimate_prepared_of, lengths_and_values}
use Rattle.turbo_prepared.specs.Phases.{inner_product_estimate_prepared_phased_of}

-- ---- the checks

module _ (s : Setup) (rotated projected : List Float) where
  pub lengths-rotated : (length rotated ≡ s.dim → ⊥) → first (lengths_and_values s rotated projected) accepted ≡ refused 5 (length rotated)
  lengths-rotated h = simp (ne_eqb (length rotated) s.dim h)

  module _ (long : length rotated ≡ s.dim) where
    pub lengths-projected : {m : ℕ} → m ≡ counted_projections_of s → (length projected ≡ m → ⊥) → first (lengths_and_values s rotated projected) accepted ≡ refused 5 (length projected)
    lengths-projected c h = simp (eq-eqb (length rotated) s.dim long, ne_eqb (length projected) (counted_projections_of s) (λ f. h (f ∙ sym c)))

    pub lengths-passed : {m : ℕ} → m ≡ counted_projections_of s → length projected ≡ m → first (lengths_and_values s rotated projected) accepted ≡ first (query_value_checks rotated projected) accepted
    lengths-passed c h = simp (eq-eqb (length rotated) s.dim long, eq-eqb (length projected) (counted_projections_of s) (h ∙ c))

module _ (s : Setup) (directions rotated projected : List Float) where
  pub ready-scalars : {n p : ℕ} → first (scalar_checks s) accepted ≡ refused n p → first (prepared_checks s directions rotated projected) accepted ≡ refused n p
  ready-scalars e = append-refused (scalar_checks s) (direction_checks s directions ++ lengths_and_values s rotated projected) tt accepted e

  pub ready-usable : first (prepared_checks s directions rotated projected) accepted ≡ accepted → first (scalar_checks s) accepted ≡ accepted
  ready-usable e = append_left (scalar_checks s) (direction_checks s directions ++ lengths_and_values s rotated projected) accepted e

  module _ (scalars : first (scalar_checks s) accepted ≡ accepted) where
    ready-after : first (prepared_checks s directions rotated projected) accepted ≡ first (direction_checks s directions ++ lengths_and_values s rotated projected) accepted
    ready-after = append-passed (scalar_checks s) (direction_checks s directions ++ lengths_and_values s rotated projected) tt accepted scalars

    pub ready-directions : {n p : ℕ} → first (direction_checks s directions) accepted ≡ refused n p → first (prepared_checks s directions rotated projected) accepted ≡ refused n p
    ready-directions e = ready-after ∙ append-refused (direction_checks s directions) (lengths_and_values s rotated projected) tt accepted e

    pub ready-rest : first (direction_checks s directions) accepted ≡ accepted → first (prepared_checks s directions rotated projected) accepted ≡ first (lengths_and_values s rotated projected) accepted
    ready-rest table = ready-after ∙ append-passed (direction_checks s directions) (lengths_and_values s rotated projected) tt accepted table

  -- ---- a score, and a score with its phase

  module _ (bytes : List ℕ) where
    pub prepared-refused : {n p : ℕ} → first (prepared_checks s directions rotated projected) accepted ≡ refused n p → inner_product_estimate_prepared_of s directions rotated projected bytes ≡ refused n p
    unfolding inner_product_estimate_prepared_of
    prepared-refused e = first-refused (prepared_checks s directions rotated projected) _ e

    pub prepared-passed : first (prepared_checks s directions rotated projected) accepted ≡ accepted → inner_product_estimate_prepared_of s directions rotated projected bytes ≡ record_score_of s directions rotated projected bytes
    unfolding inner_product_estimate_prepared_of record_score_of
    prepared-passed e = first-passed (prepared_checks s directions rotated projected) _ e

    pub prepared-phased-refused : {n p : ℕ} → first (prepared_checks s directions rotated projected) accepted ≡ refused n p → inner_product_estimate_prepared_phased_of s directions rotated projected bytes ≡ refused n p
    unfolding inner_product_estimate_prepared_phased_of
    prepared-phased-refused e = first-refused (prepared_checks s directions rotated projected) _ e

    pub prepared-phased-passed : first (prepared_checks s directions rotated projected) accepted ≡ accepted → inner_product_estimate_prepared_phased_of s directions rotated projected bytes ≡ value (record_score_of s directions rotated projected bytes)
    unfolding inner_product_estimate_prepared_phased_of
    prepared-phased-passed e = first-passed (prepared_checks s directions rotated projected) _ e

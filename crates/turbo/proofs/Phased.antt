-- A score that is answered with its phase: it is finite, and it is the score that is answered without; so is one by a prepared query. Assumes nothing.
use Prim.Native.Nat.{ℕ}
use mathlib.Core.Path.{◌≡◌, sym, ap, ◌∙◌, subst}
use mathlib.Core.List.{List}
use lib.Dec.{T}
use lib.Ieee.{Float}
use lib.Ieee.Scale.{finite}
use Rattle.error.specs.Answer.{value}
use Rattle.error.proofs.Chains.{first-value}
use Rattle.setup.specs.Lent.{Lent}
use Rattle.setup.specs.declared.Setup.{Setup}
use Rattle.turbo_query.specs.Query.{query_checks}
use Rattle.turbo_record.specs.Scoring.{record_score, since_reading, record_score_of}
use Rattle.turbo_phased.specs.Estimates.{estimate, inner_product_estimate_phased_of, inner_product_estimate_of, prepared_checks, inner_product_estimate_prepared_of, joined}
use Rattle.turbo_prepared.specs.Phases.{inner_product_estimate_prepared_phased_of}
use Rattle.turbo.proofs.Since.{since-value, since-finite}
use Rattle.turbo.proofs.Answers.{phased-joined, prepared-phased-joined}

-- what is answered from a record's reading on is finite
answered-finite : (s : Setup) (bytes : List ℕ) (z : Float) {x : Float} → since_reading s bytes z (value z) ≡ value x → T (finite x)
answered-finite s bytes z answered = subst (λ (y : Float). T (finite y)) (since-value s bytes z answered) (since-finite s bytes z answered)

-- ---- by a query

module _ (s : Setup) (l : Lent) (query : List Float) (bytes : List ℕ) {x : Float} (scored : inner_product_estimate_phased_of s l query bytes ≡ value (value x)) where
  pub phased-finite : T (finite x)
  unfolding inner_product_estimate_phased_of
  phased-finite =
      let z = estimate s l query bytes in
      answered-finite s bytes z (first-value (query_checks s l query) (since_reading s bytes z (value z)) scored)

  pub phased-scored : inner_product_estimate_of s l query bytes ≡ value x
  phased-scored = sym (phased-joined s l query bytes) ∙ ap joined scored

-- ---- by a prepared query

module _ (s : Setup) (directions rotated projected : List Float) (bytes : List ℕ) {x : Float} (scored : inner_product_estimate_prepared_phased_of s directions rotated projected bytes ≡ value (value x)) where
  pub prepared-phased-finite : T (finite x)
  unfolding inner_product_estimate_prepared_phased_of record_score_of
  prepared-phased-finite =
      answered-finite s bytes (record_score s directions rotated projected bytes)
      (first-value (prepared_checks s directions rotated projected) (record_score_of s directions rotated projected bytes) scored)

  pub prepared-phased-scored : inner_product_estimate_prepared_of s directions rotated projected bytes ≡ value x
  prepared-phased-scored = sym (prepared-phased-joined s directions rotated projected bytes) ∙ ap joined scored

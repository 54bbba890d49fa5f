-- The answers of a score with its phase, case by case, from what its checks find. Assumes nothing.
use Prim.Native.Nat.{ℕ}
use mathlib.Core.Path.{◌≡◌, refl, sym, ap, ◌∙◌}
use mathlib.Core.List.{List}
use lib.Ieee.{Float, binary32, add}
use Rattle.error.specs.Answer.{Answer, value, refused, first, accepted}
use Rattle.error.proofs.Chains.{first-passed, first-refused}
use Rattle.rounding.specs.Rows.{projected as projectedOn}
use Rattle.setup.specs.Lent.{Lent}
use Rattle.rotation.specs.Rotation.{rotated}
use Rattle.rotation_stored.specs.Stored.{stored_rotated}
use Rattle.setup.specs.declared.Setup.{Setup}
use Rattle.setup.specs.declared.RotationKind.{RotationKind}
use Rattle.setup.specs.declared.RotationKind.TheVariants.{FastHadamard, Stored}
use Rattle.setup.specs.declared.TurboMode.{TurboMode}
use Rattle.setup.specs.declared.TurboMode.TheVariants.{PolarOnly, PolarWithQjl}
use Rattle.setup.specs.Setups.{by_mode, by_rotation}
use Rattle.qjl_residual.specs.Residual.{residual_of}
use Rattle.packed.specs.Fields.{norm_of}
use Rattle.packed.specs.Reading.{signs_of}
use Rattle.turbo_order.specs.Account.{hadamard_account, stored_account}
use Rattle.turbo_order.specs.Scores.{account_of, score_from, score_of}
use Rattle.turbo_order.proofs.Within.{polar_part}
use Rattle.turbo_query.specs.Query.{rotated_query, projected_query, query_checks}
use Rattle.turbo_opening.specs.Opening.{content_of}
use Rattle.turbo_record.specs.Scoring.{record_score, since_reading, record_score_of}
use Rattle.turbo_query.proofs.Turned.{Turned}
use Rattle.turbo_phased.specs.Estimates.{inner_product_estimate_phased_of, estimate}

-- without residual the projected query is not read, and with it every projection counts
either-rows : (mode : TurboMode) (alone : Float) (residual : ℕ → Float) (m : ℕ) → by_mode mode alone (residual m) ≡ by_mode mode alone (residual (by_mode mode 0 m))
either-rows PolarOnly alone residual m = refl
either-rows PolarWithQjl alone residual m = refl

-- ---- by a query

module _ (s : Setup) (l : Lent) (query : List Float) (bytes : List ℕ) where
  -- the account's entries are the query rotated
  entries_at : (k : RotationKind) → (by_rotation k (hadamard_account s.dim l.rotation query) (stored_account s.dim l.rotation query)).entries ≡ by_rotation k (rotated s.dim l.rotation query) (stored_rotated s.dim l.rotation query)
  entries_at FastHadamard = refl
  entries_at Stored = refl

  pub account-entries : (account_of s l query).entries ≡ rotated_query s l query
  account-entries = entries_at s.kind

  -- the score is the one of the query rotated and projected
  pub estimate-record : estimate s l query bytes ≡ record_score s l.directions (rotated_query s l query) (projected_query s l query) bytes
  unfolding score_of score_from
  estimate-record =
      either-rows s.mode (polar_part (account_of s l query) l (content_of bytes))
      (λ k. add binary32 (polar_part (account_of s l query) l (content_of bytes)) (residual_of s.projections (norm_of bytes) (projectedOn s.dim k l.matrix query) (signs_of bytes)))
      s.projections
      ∙ ap (λ (entries : List Float). record_score s l.directions entries (projected_query s l query) bytes) account-entries

  pub phased-refused : {n p : ℕ} → first (query_checks s l query) accepted ≡ refused n p → inner_product_estimate_phased_of s l query bytes ≡ refused n p
  unfolding inner_product_estimate_phased_of
  phased-refused e = first-refused (query_checks s l query) _ e

  pub phased-passed : first (query_checks s l query) accepted ≡ accepted
      → inner_product_estimate_phased_of s l query bytes ≡ value (record_score_of s l.directions (rotated_query s l query) (projected_query s l query) bytes)
  unfolding inner_product_estimate_phased_of record_score_of
  phased-passed e =
      first-passed (query_checks s l query) _ e
      ∙ ap (λ (x : Float). value (since_reading s bytes x (value x))) estimate-record

  -- by what the room holds that a query was turned in
  pub turned-phased : {said : Answer (Unit {0})} {rotated projected : List Float} → Turned s l query said rotated projected → said ≡ accepted
      → value (record_score_of s l.directions rotated projected bytes) ≡ inner_product_estimate_phased_of s l query bytes
  turned-phased {projected = projected} t e =
      let held = t.held e in
      ap (λ (xs : List Float). value (record_score_of s l.directions xs projected bytes)) held.0
      ∙ ap (λ (xs : List Float). value (record_score_of s l.directions (rotated_query s l query) xs bytes)) held.1
      ∙ sym (phased-passed (sym t.answer ∙ e))

-- The score of a record that is opened, and its answer from record reading on, case by case. Assumes nothing.
use Prim.Native.Nat.{ℕ}
use mathlib.Core.Path.{◌≡◌, sym, ap, ◌∙◌}
use mathlib.Core.Bool.{true, false}
use mathlib.Core.List.{List, [], ◌∷◌}
use lib.Ieee.{Float, binary32, add}
use lib.Ieee.Scale.{finite}
use Rattle.error.specs.Answer.{value, refused, withdrawn}
use Rattle.error.specs.Checks.{wrong_score, finite_score_of}
use Rattle.error.proofs.Chains.{append-passed, append-refused}
use Rattle.setup.specs.declared.Setup.{Setup}
use Rattle.setup.specs.declared.TurboMode.{TurboMode}
use Rattle.setup.specs.declared.TurboMode.TheVariants.{PolarOnly, PolarWithQjl}
use Rattle.setup.specs.Setups.{by_mode}
use Rattle.polar.specs.Polar.{polar_sum_of}
use Rattle.qjl_residual.specs.Residual.{residual_of}
use Rattle.packed.specs.declared.Header.{Header}
use Rattle.packed.specs.Fields.{projections_of, norm_of}
use Rattle.packed.specs.Layout.{header_of}
use Rattle.packed.specs.Reading.{radii_of, indices_of, signs_of}
use Rattle.packed.proofs.Withdrawn.{unless-none, unless-some}
use Rattle.turbo_order.specs.Scores.{score_from}
use Rattle.turbo_opening.specs.Opening.{open_checks}
use Rattle.turbo_opening.specs.Inner.{opened_of}
use Rattle.turbo_opening.proofs.Answers.{opened-passed, opened-refused, opened-withdrawn, opened-projections}
use Rattle.turbo_record.specs.Scoring.{record_score, record_score_of}

module _ (s : Setup) (directions rotated projected : List Float) (bytes : List ℕ) where
  pub record-refused : {n p : ℕ} → opened_of s bytes ≡ refused n p → record_score_of s directions rotated projected bytes ≡ refused n p
  unfolding record_score_of
  record-refused e =
      let refusal = opened-refused s bytes e in
      unless-some bytes _ refusal.0 ∙ append-refused (open_checks s bytes) (wrong_score (record_score s directions rotated projected bytes) ∷ []) (header_of bytes) _ refusal.1

  pub record-withdrawn : opened_of s bytes ≡ withdrawn → record_score_of s directions rotated projected bytes ≡ withdrawn
  unfolding record_score_of
  record-withdrawn e = unless-none bytes _ (opened-withdrawn s bytes e)

  module _ {h : Header} (opened : opened_of s bytes ≡ value h) where
    record-rest : record_score_of s directions rotated projected bytes ≡ finite_score_of (record_score s directions rotated projected bytes)
    unfolding record_score_of
    record-rest =
        let passed = opened-passed s bytes opened in
        unless-some bytes _ passed.0 ∙ append-passed (open_checks s bytes) (wrong_score (record_score s directions rotated projected bytes) ∷ []) (header_of bytes) _ passed.1

    pub record-finite : (x : Float) → x ≡ record_score s directions rotated projected bytes → finite x ≡ true → record_score_of s directions rotated projected bytes ≡ value x
    record-finite x e f = record-rest ∙ ap finite_score_of (sym e) ∙ simp f

    pub record-infinite : (x : Float) → x ≡ record_score s directions rotated projected bytes → finite x ≡ false → record_score_of s directions rotated projected bytes ≡ refused 12 0
    record-infinite x e f = record-rest ∙ ap finite_score_of (sym e) ∙ simp f

    -- without residual
    pub record-alone : s.mode ≡ PolarOnly → record_score s directions rotated projected bytes ≡ polar_sum_of rotated directions (indices_of bytes) (radii_of bytes)
    unfolding score_from
    record-alone e =
        ap (λ (m : TurboMode). by_mode m (polar_sum_of rotated directions (indices_of bytes) (radii_of bytes)) (add binary32 (polar_sum_of rotated directions (indices_of bytes) (radii_of bytes)) (residual_of s.projections (norm_of bytes) projected (signs_of bytes)))) e

    -- with it
    pub record-both : s.mode ≡ PolarWithQjl → (x y : Float) → x ≡ polar_sum_of rotated directions (indices_of bytes) (radii_of bytes) → y ≡ residual_of (projections_of bytes) (norm_of bytes) projected (signs_of bytes)
        → record_score s directions rotated projected bytes ≡ add binary32 x y
    unfolding score_from
    record-both e x y f g =
        let counted = opened-projections s bytes opened ∙ ap (λ (m : TurboMode). by_mode m 0 s.projections) e in
        ap (λ (m : TurboMode). by_mode m (polar_sum_of rotated directions (indices_of bytes) (radii_of bytes)) (add binary32 (polar_sum_of rotated directions (indices_of bytes) (radii_of bytes)) (residual_of s.projections (norm_of bytes) projected (signs_of bytes)))) e
        ∙ ap (λ (k : ℕ). add binary32 (polar_sum_of rotated directions (indices_of bytes) (radii_of bytes)) (residual_of k (norm_of bytes) projected (signs_of bytes))) (sym counted)
        ∙ ap (λ (a : Float). add binary32 a (residual_of (projections_of bytes) (norm_of bytes) projected (signs_of bytes))) (sym f)
        ∙ ap (add binary32 x) (sym g)

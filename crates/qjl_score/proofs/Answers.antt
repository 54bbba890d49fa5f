-- The score of a sketch, case by case, from what its checks find. Assumes nothing.
use Prim.Native.Nat.{ℕ, ◌≤◌, ◌<◌}
use mathlib.Core.Path.{◌≡◌, refl, sym, ap, ◌∙◌}
use mathlib.Core.Bool.{true, false}
use mathlib.Core.List.{List}
use borrow.Author.Tests.{eq-eqb, ne_eqb}
use lib.IntN.{ℤ}
use lib.ListN.{length}
use lib.Ieee.{Float}
use Rattle.error.specs.Answer.{Answer, value, refused, withdrawn, first, accepted}
use Rattle.error.proofs.Chains.{first-passed, first-refused, first-all}
use Rattle.float.specs.Constants.{pos_zero}
use Rattle.setup.specs.Lent.{Lent}
use Rattle.setup.specs.declared.Setup.{Setup}
use Rattle.setup.specs.declared.TurboMode.{TurboMode}
use Rattle.setup.specs.declared.TurboMode.TheVariants.{PolarOnly, PolarWithQjl}
use Rattle.setup.specs.Setups.{by_mode, counted_projections_of}
use Rattle.setup_tables.specs.Checks.{setup_checks_but_entries}
use Rattle.setup_tables.proofs.Accepted.{but-entries-usable}
use Rattle.rounding.specs.Rows.{projected}
use Rattle.qjl_rows.specs.Inner.{Rowed}
use Rattle.qjl.specs.Sketch.{vector_checks}
use Rattle.radius.specs.Radii.{bad_radius}
use Rattle.qjl_residual.specs.Residual.{residual_of}
use Rattle.qjl.specs.Score.{signed_checks, signed_score, mode_score, sketch_score_of}
use Rattle.qjl_score.specs.Inner.{ScoreAtOnce}
use Rattle.qjl.proofs.Answers.{vector-ready, shaped-ready, shaped-passed}

-- ---- what a query has whose checks all pass

module _ (s : Setup) (l : Lent) (vector : List Float) (passed : first (vector_checks s l vector) accepted ≡ accepted) where
  -- in residual mode every projection counts
  pub vector-residual : s.mode ≡ PolarWithQjl → Rowed s.dim l.matrix vector s.projections × (s.projections ≤ 4096)
  vector-residual e = vector-ready s l vector passed (ap (λ (m : TurboMode). by_mode m 0 s.projections) (sym e)) refl

-- ---- a sketch score

module _ (s : Setup) (l : Lent) (query : List Float) (sketch : List ℤ) (norm : Float) where
  pub score-refused : {number place : ℕ} → first (vector_checks s l query) accepted ≡ refused number place
      → sketch_score_of s l query sketch norm ≡ refused number place
  unfolding sketch_score_of
  score-refused e = first-refused (vector_checks s l query) (mode_score s.mode s.dim s.projections l.matrix query sketch norm) e

  -- the checks of the query pass, and the mode is known
  module _ {mode : TurboMode} (passed : first (vector_checks s l query) accepted ≡ accepted) (is : s.mode ≡ mode) where
    score-rest : sketch_score_of s l query sketch norm ≡ mode_score mode s.dim s.projections l.matrix query sketch norm
    unfolding sketch_score_of
    score-rest =
        first-passed (vector_checks s l query) (mode_score s.mode s.dim s.projections l.matrix query sketch norm) passed
        ∙ ap (λ (m : TurboMode). mode_score m s.dim s.projections l.matrix query sketch norm) is

  pub score-residual : first (vector_checks s l query) accepted ≡ accepted → s.mode ≡ PolarWithQjl
      → sketch_score_of s l query sketch norm ≡ signed_score s.projections (projected s.dim s.projections l.matrix query) sketch norm
  unfolding mode_score
  score-residual e m = score-rest e m

  pub score-alone-length : first (vector_checks s l query) accepted ≡ accepted → s.mode ≡ PolarOnly → (length sketch ≡ 0 → ⊥)
      → sketch_score_of s l query sketch norm ≡ refused 5 (length sketch)
  unfolding mode_score
  score-alone-length e m h = score-rest e m ∙ simp (ne_eqb (length sketch) 0 h)

  pub score-alone-norm : first (vector_checks s l query) accepted ≡ accepted → s.mode ≡ PolarOnly → length sketch ≡ 0 → bad_radius norm ≡ true
      → sketch_score_of s l query sketch norm ≡ refused 23 0
  unfolding mode_score
  score-alone-norm e m h bad = score-rest e m ∙ simp (eq-eqb (length sketch) 0 h, bad)

  -- without residual it is 0
  pub score-alone : first (vector_checks s l query) accepted ≡ accepted → s.mode ≡ PolarOnly → length sketch ≡ 0 → bad_radius norm ≡ false
      → sketch_score_of s l query sketch norm ≡ value pos_zero
  unfolding mode_score
  score-alone e m h good = score-rest e m ∙ simp (eq-eqb (length sketch) 0 h, good)

-- ---- a sketch score from finite projections

module _ (s : Setup) (l : Lent) (query : List Float) (passed : first (setup_checks_but_entries s l) accepted ≡ accepted) (long : length query ≡ s.dim) (is : s.mode ≡ PolarWithQjl) where
  -- in residual mode every projection counts
  all-counted : s.projections ≡ counted_projections_of s
  all-counted = ap (λ (m : TurboMode). by_mode m 0 s.projections) (sym is)

  pub shaped-residual : Rowed s.dim l.matrix query s.projections × (s.projections ≤ 4096)
  shaped-residual = shaped-ready s l query s.projections passed long all-counted refl

  -- a score says that all projections are finite
  pub score-made : (sketch : List ℤ) (norm : Float) {said : Answer Float} → said ≡ signed_score s.projections (projected s.dim s.projections l.matrix query) sketch norm
      → ScoreAtOnce (sketch_score_of s l query sketch norm) said
  unfolding signed_score
  score-made sketch norm h = record {
    made = λ e.
        let values = projected s.dim s.projections l.matrix query in
        let scored = sym h ∙ e in
        let clean = (first-all (signed_checks s.projections values sketch norm (residual_of s.projections norm values sketch)) (value (residual_of s.projections norm values sketch)) scored).0 in
        let above : 0 < s.projections = rw all-counted ((but-entries-usable s l passed).residual_projections is) in
        score-residual s l query sketch norm (shaped-passed s l query s.projections passed shaped-residual.0 above clean) is ∙ scored;
  }

-- ---- no score at once

pub score-left : (answer : Answer Float) → ScoreAtOnce answer withdrawn
score-left answer = record { made = λ e. cc }

-- No hidden infinity in a score: where it is finite, so is every value of the rotated and of the projected query that it was summed from. Assumes nothing.
use Prim.Native.Nat.{ℕ, zero, suc, ◌+◌, ◌*◌, ◌/◌, ◌<◌}
use mathlib.Core.Path.{◌≡◌, sym, ◌∙◌, subst}
use mathlib.Core.Bool.{false}
use mathlib.Core.List.{List, map}
use native.Mathlib.Decide.{ℕ_discrete}
use native.Mathlib.Nat.{le_of_suc-le-suc, not-suc-le-zero}
use native.Mathlib.Omega.{arith}
use lib.Dec.{T, ltb}
use lib.ListN.{length, get_or, length-map}
use lib.Ieee.{Float, nan, binary32, add, mul, of_int}
use lib.Ieee.Scale.{finite}
use Rattle.float.specs.Constants.{pos_zero}
use borrow.Author.Tests.{eq-eqb}
use Rattle.error.specs.Answer.{value, first, place, accepted}
use Rattle.error.proofs.Chains.{first-clear, first_ends}
use Rattle.error.specs.Checks.{bad_value}
use Rattle.error.proofs.Finite.{finite-passes}
use Rattle.error.proofs.Places.{each_none}
use Rattle.rounding.specs.Butterfly.{from}
use Rattle.rounding.specs.Sums.{running, products}
use Rattle.rounding.proofs.Finite.{add-finite, mul-finite}
use Rattle.rounding.proofs.Partial.{running-start, dot-finite}
use lib.Ieee.Bits.{is_true}
use Rattle.setup.specs.declared.Setup.{Setup}
use Rattle.setup.specs.declared.TurboMode.{TurboMode}
use Rattle.setup.specs.declared.TurboMode.TheVariants.{PolarOnly, PolarWithQjl}
use Rattle.setup.specs.Setups.{by_mode, counted_projections_of}
use Rattle.polar.specs.Polar.{value_at, cosine, sine, term, polar_sum_of}
use Rattle.qjl_residual.specs.Residual.{scale_of, sign_sum_of, residual_of}
use Rattle.turbo_order.specs.Scores.{Content, score_from}
use Rattle.setup.specs.Checks.{scalar_checks}
use Rattle.packed.proofs.Radii.{length-signs_of}
use Rattle.turbo_opening.specs.Opening.{content_of}
use Rattle.turbo_opening.proofs.Answers.{opened-projections}
use Rattle.turbo_record.specs.Scoring.{record_score, record_score_of}
use Rattle.turbo_phased.specs.Estimates.{prepared_checks, inner_product_estimate_prepared_of}
use Rattle.turbo_prepared.proofs.Answers.{ready-rest, prepared-passed}
use Rattle.turbo.specs.Inner.{Lengths}
use Rattle.turbo.proofs.Since.{since-open, since-pairs, since-finite}

-- each term of a finite sum over the numbers from `start` on
sum-finite : (f : ℕ → Float) (acc : Float) (start count i : ℕ) → i < count → T (finite (running acc (map f (from start count)))) → T (finite (f (start + i)))
unfolding running from
sum-finite f acc start zero i h t = absurd (not-suc-le-zero h)
sum-finite f acc start (suc count) zero h t =
    let e : start ≡ start + 0 = omega arith in
    subst (λ (k : ℕ). T (finite (f k))) e (add-finite binary32 acc (f start) (running-start (add binary32 acc (f start)) (map f (from (suc start) count)) t)).1
sum-finite f acc start (suc count) (suc i) h t =
    let e : suc start + i ≡ start + suc i = omega arith in
    subst (λ (k : ℕ). T (finite (f k))) e (sum-finite f (add binary32 acc (f start)) (suc start) count i (le_of_suc-le-suc h) t)

-- ---- the polar sum

module _ (rotated directions : List Float) (indices : List ℕ) (radii : List Float) (t : T (finite (polar_sum_of rotated directions indices radii))) where
  -- both values of a pair
  pair-finite : (i : ℕ) → i < length radii → T (finite (value_at rotated (2 * i))) × T (finite (value_at rotated (2 * i + 1)))
  unfolding polar_sum_of term
  pair-finite i h =
      let e : 0 + i ≡ i = omega arith in
      let whole = subst (λ (k : ℕ). T (finite (term rotated directions indices radii k))) e (sum-finite (λ k. term rotated directions indices radii k) pos_zero 0 (length radii) i h t) in
      let inner = (mul-finite binary32 (value_at radii i) (add binary32 (mul binary32 (value_at rotated (2 * i)) (cosine directions indices i)) (mul binary32 (value_at rotated (2 * i + 1)) (sine directions indices i))) whole).1 in
      let both = add-finite binary32 (mul binary32 (value_at rotated (2 * i)) (cosine directions indices i)) (mul binary32 (value_at rotated (2 * i + 1)) (sine directions indices i)) inner in
      ((mul-finite binary32 (value_at rotated (2 * i)) (cosine directions indices i) both.0).0, (mul-finite binary32 (value_at rotated (2 * i + 1)) (sine directions indices i) both.1).0)

  polar-finite : 2 * length radii ≡ length rotated → (k : ℕ) → k < length rotated → T (finite (get_or rotated k pos_zero))
  polar-finite long k h =
      let pair = pair-finite (k / 2) (omega arith) in
      elim (ℕ_discrete k (2 * (k / 2))) [
        | yes e ↦ subst (λ (j : ℕ). T (finite (get_or rotated j pos_zero))) (sym e) pair.0
        | no d ↦ let e : 2 * (k / 2) + 1 ≡ k = omega (arith, d) in subst (λ (j : ℕ). T (finite (get_or rotated j pos_zero))) e pair.1
      ]

-- ---- the score

-- of what the score is made, by the mode
polar-of : (mode : TurboMode) (a b : Float) → T (finite (by_mode mode a (add binary32 a b))) → T (finite a)
polar-of PolarOnly a b t = t
polar-of PolarWithQjl a b t = (add-finite binary32 a b t).0

residual_of_lem : (mode : TurboMode) (m : ℕ) (a b : Float) → 0 < by_mode mode 0 m → T (finite (by_mode mode a (add binary32 a b))) → T (finite b)
residual_of_lem PolarOnly m a b h t = absurd (not-suc-le-zero h)
residual_of_lem PolarWithQjl m a b h t = (add-finite binary32 a b t).1

module _ (s : Setup) (directions rotated projected : List Float) (c : Content) (t : T (finite (score_from s directions rotated projected c))) where
  pub score-rotated : 2 * length c.radii ≡ length rotated → ltb (place bad_value rotated) (length rotated) ≡ false
  unfolding score_from
  score-rotated long =
      let sum = polar-of s.mode (polar_sum_of rotated directions c.indices c.radii) (residual_of s.projections c.norm projected c.signs) t in
      each_none bad_value rotated pos_zero (λ k h. finite-passes _ (is_true _ (polar-finite rotated directions c.indices c.radii sum long k h)))

  signs-finite : length c.signs ≡ length projected → T (finite (residual_of s.projections c.norm projected c.signs)) → (i : ℕ) → i < length projected → T (finite (get_or projected i nan))
  unfolding residual_of sign_sum_of
  signs-finite even sum i h =
      let total = (mul-finite binary32 (scale_of s.projections c.norm) (running pos_zero (products (map (of_int binary32) c.signs) projected)) sum).1 in
      (dot-finite pos_zero (map (of_int binary32) c.signs) projected total i (simp length-map (omega (arith, even))) h).1

  pub score-projected : length c.signs ≡ length projected → length projected ≡ counted_projections_of s → ltb (place bad_value projected) (length projected) ≡ false
  unfolding score_from
  score-projected even counted =
      each_none bad_value projected nan
      (λ i h. finite-passes _ (is_true _ (signs-finite even (residual_of_lem s.mode s.projections (polar_sum_of rotated directions c.indices c.radii) (residual_of s.projections c.norm projected c.signs) (omega (arith, counted, h)) t) i h)))

-- ---- by a prepared query: a score tells that its values pass their checks

module _ (s : Setup) (directions rotated projected : List Float) (bytes : List ℕ) {x : Float} (fits : Lengths s directions (length rotated) (length projected))
    (scored : value x ≡ first (scalar_checks s) (record_score_of s directions rotated projected bytes))
  where
    answered : record_score_of s directions rotated projected bytes ≡ value x
    answered = first_ends (scalar_checks s) _ (sym scored)

    ready : first (prepared_checks s directions rotated projected) accepted ≡ accepted
    unfolding record_score_of
    ready =
        let z = record_score s directions rotated projected bytes in
        let finite-score = since-finite s bytes z answered in
        let even = length-signs_of bytes ∙ opened-projections s bytes (since-open s bytes z answered) ∙ sym fits.projected_long in
        let one = score-rotated s directions rotated projected (content_of bytes) finite-score (since-pairs s bytes z answered ∙ sym fits.rotated_long) in
        let two = score-projected s directions rotated projected (content_of bytes) finite-score even fits.projected_long in
        ready-rest s directions rotated projected (first-clear (scalar_checks s) _ (sym scored)) fits.table ∙ simp (eq-eqb (length rotated) s.dim fits.rotated_long, eq-eqb (length projected) (counted_projections_of s) fits.projected_long, one, two)

    pub prepared-scored : inner_product_estimate_prepared_of s directions rotated projected bytes ≡ value x
    prepared-scored = prepared-passed s directions rotated projected bytes ready ∙ answered

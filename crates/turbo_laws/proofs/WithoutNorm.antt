-- Without a norm a record is scored as document 01 has it, with the scale of the norm 1.0. Assumes nothing.
use Prim.Native.Nat.{ℕ}
use mathlib.Core.Path.{◌≡◌, sym, ap, ◌∙◌}
use mathlib.Core.Bool.{false}
use mathlib.Core.List.{List, [], ◌∷◌, ◌++◌}
use native.Mathlib.Nat.{mul-one}
use lib.IntN.{ℤ}
use lib.ListN.{length}
use lib.Ieee.{Float}
use Rattle.error.specs.Answer.{Answer, value, Check, first, each}
use Rattle.error.specs.Checks.{wrong_input, wrong_room, wrong_score, bad_value}
use Rattle.error.proofs.Chains.{first-append}
use Rattle.float.specs.Constants.{pos_zero, one}
use Rattle.rounding.specs.Rows.{projected}
use Rattle.bitpack.specs.Signs.{bad_sketch_sign}
use Rattle.qjl_residual.proofs.Examples.{whole_of-one}
use Rattle.setup.specs.Lent.{Lent}
use Rattle.setup.specs.declared.Setup.{Setup}
use Rattle.setup.specs.declared.TurboMode.{TurboMode}
use Rattle.setup.specs.declared.TurboMode.TheVariants.{PolarOnly, PolarWithQjl}
use Rattle.setup.specs.Setups.{by_mode}
use Rattle.qjl.specs.Sketch.{vector_checks}
use Rattle.qjl.specs.Score.{signed_score, mode_score, sketch_score_of}
use Rattle.packed.specs.Fields.{map_of, has_norm}
use Rattle.packed.specs.Reading.{unless_withdrawn, radii_of, record_checks}
use Rattle.packed_laws.specs.WithoutNorm.{former_record_checks}
use Rattle.radius.proofs.Radii.{one-good}
use Rattle.packed_laws.proofs.WithoutNorm.{norm-absent, checks-same}
use Rattle.turbo_order.specs.Scores.{score_from, score_of, exact_by, size_by, bound_by}
use Rattle.turbo_query.specs.Query.{query_checks}
use Rattle.setup.specs.Checks.{scalar_checks}
use Rattle.packed.specs.declared.Header.{Header}
use Rattle.packed.specs.Layout.{header_of}
use Rattle.turbo_opening.specs.Opening.{match_checks, open_record_of}
use Rattle.turbo_distance.specs.Distance.{distance_from_score_of}
use Rattle.turbo_record.specs.Scoring.{record_score, since_reading}
use Rattle.setup_tables.specs.Checks.{setup_checks}
use Rattle.turbo_decode.specs.Decode.{decoded, decode_approximate_of}
use Rattle.turbo_phased.specs.Estimates.{estimate, inner_product_estimate_of, inner_product_estimate_phased_of, prepared_checks, inner_product_estimate_prepared_of}
use Rattle.turbo.specs.Distance.{l2_distance_estimate_of}
use Rattle.turbo_phased.proofs.Answers.{account-entries}
use Rattle.turbo.specs.Order.{exact_of, bound_for}
use Rattle.turbo_laws.specs.WithoutNorm.{former_residual, former_score, former_estimate, former_exact, former_bound, former_reading, former_sketch_score, ScoresWithoutNorm}

module _ (s : Setup) (bytes : List ℕ) (none : has_norm (map_of bytes) ≡ false) where
  score-same : (directions turned values : List Float) → record_score s directions turned values bytes ≡ former_score s directions turned values bytes
  unfolding score_from
  score-same directions turned values = rw (norm-absent bytes none)

  -- the checks that stand behind those of the record
  behind-same : {A : Type 0} (last : List Check) (a : Answer A) → first (record_checks bytes ++ match_checks s bytes ++ last) a ≡ first (former_record_checks bytes ++ match_checks s bytes ++ last) a
  behind-same last a =
      let rest = match_checks s bytes in
      first-append (record_checks bytes ++ rest) last a
      ∙ first-append (record_checks bytes) rest (first last a)
      ∙ checks-same bytes none (first rest (first last a))
      ∙ sym (first-append (former_record_checks bytes) rest (first last a))
      ∙ sym (first-append (former_record_checks bytes ++ rest) last a)

  open-same : open_record_of s bytes ≡ first (scalar_checks s) (unless_withdrawn bytes (first (former_record_checks bytes ++ match_checks s bytes) (value (header_of bytes))))
  unfolding open_record_of
  open-same =
      ap (λ (a : Answer Header). first (scalar_checks s) (unless_withdrawn bytes a))
      (first-append (record_checks bytes) (match_checks s bytes) (value (header_of bytes))
      ∙ checks-same bytes none (first (match_checks s bytes) (value (header_of bytes)))
      ∙ sym (first-append (former_record_checks bytes) (match_checks s bytes) (value (header_of bytes))))

  reading-same : {A : Type 0} (x : Float) (a : Answer A) → since_reading s bytes x a ≡ former_reading s bytes x a
  reading-same x a = ap (unless_withdrawn bytes) (behind-same (wrong_score x ∷ []) a)

  decode-same : (l : Lent) (room : ℕ)
      → decode_approximate_of s l bytes room
      ≡ first (setup_checks s l) (unless_withdrawn bytes (first (former_record_checks bytes ++ match_checks s bytes ++ (wrong_room room s.dim ∷ [])) (value (decoded s l bytes))))
  unfolding decode_approximate_of
  decode-same l room = ap (λ (a : Answer (List Float)). first (setup_checks s l) (unless_withdrawn bytes a)) (behind-same (wrong_room room s.dim ∷ []) (value (decoded s l bytes)))

  prepared-same : (directions turned values : List Float)
      → inner_product_estimate_prepared_of s directions turned values bytes
      ≡ first (prepared_checks s directions turned values) (former_reading s bytes (former_score s directions turned values bytes) (value (former_score s directions turned values bytes)))
  unfolding inner_product_estimate_prepared_of
  prepared-same directions turned values =
      ap (first (prepared_checks s directions turned values))
      (ap (λ (x : Float). since_reading s bytes x (value x)) (score-same directions turned values)
      ∙ reading-same (former_score s directions turned values bytes) (value (former_score s directions turned values bytes)))

  module _ (l : Lent) (query : List Float) where
    estimate-same : estimate s l query bytes ≡ former_estimate s l query bytes
    unfolding score_of
    estimate-same =
        score-same l.directions _ _
        ∙ ap (λ (entries : List Float). former_score s l.directions entries (projected s.dim s.projections l.matrix query) bytes) (account-entries s l query bytes)

    -- from record reading on
    since-same : since_reading s bytes (estimate s l query bytes) (value (estimate s l query bytes)) ≡ former_reading s bytes (former_estimate s l query bytes) (value (former_estimate s l query bytes))
    since-same =
        ap (λ (x : Float). since_reading s bytes x (value x)) estimate-same
        ∙ reading-same (former_estimate s l query bytes) (value (former_estimate s l query bytes))

    scored-same : inner_product_estimate_of s l query bytes ≡ first (query_checks s l query) (former_reading s bytes (former_estimate s l query bytes) (value (former_estimate s l query bytes)))
    unfolding inner_product_estimate_of
    scored-same = ap (first (query_checks s l query)) since-same

    phased-same : inner_product_estimate_phased_of s l query bytes ≡ first (query_checks s l query) (value (former_reading s bytes (former_estimate s l query bytes) (value (former_estimate s l query bytes))))
    unfolding inner_product_estimate_phased_of
    phased-same = ap (λ (a : Answer Float). first (query_checks s l query) (value a)) since-same

    distance-same : l2_distance_estimate_of s l query bytes ≡ first (query_checks s l query) (former_reading s bytes (former_estimate s l query bytes) (distance_from_score_of query (radii_of bytes) (former_estimate s l query bytes)))
    unfolding l2_distance_estimate_of
    distance-same =
        ap (first (query_checks s l query))
        (ap (λ (x : Float). since_reading s bytes x (distance_from_score_of query (radii_of bytes) x)) estimate-same
        ∙ reading-same (former_estimate s l query bytes) (distance_from_score_of query (radii_of bytes) (former_estimate s l query bytes)))

    exact_same : exact_of s l query bytes ≡ former_exact s l query bytes
    unfolding exact_by
    exact_same = rw (norm-absent bytes none)

    bound-same : bound_for s l query bytes ≡ former_bound s l query bytes
    unfolding bound_by size_by
    bound-same = rw (norm-absent bytes none, whole_of-one, mul-one)

-- ---- a sketch score

module _ (s : Setup) (l : Lent) (query : List Float) (sketch : List ℤ) where
  mode_same : (mode : TurboMode) → mode_score mode s.dim s.projections l.matrix query sketch (one false)
      ≡ (let values = projected s.dim s.projections l.matrix query in
      let x = former_residual s.projections values sketch in
      by_mode mode
      (first (wrong_input (length sketch) 0 ∷ []) (value pos_zero))
      (first (each bad_value 11 values ∷ wrong_input (length sketch) s.projections ∷ each bad_sketch_sign 10 sketch ∷ wrong_score x ∷ []) (value x)))
  unfolding mode_score signed_score
  mode_same PolarOnly = rw one-good
  mode_same PolarWithQjl = rw one-good

  sketched-same : sketch_score_of s l query sketch (one false) ≡ former_sketch_score s l query sketch
  unfolding sketch_score_of
  sketched-same = ap (first (vector_checks s l query)) (mode_same s.mode)

pub scores-without-norm : ScoresWithoutNorm
scores-without-norm = record {
  open_kept = λ s bytes none. open-same s bytes none;
  score_kept = λ s l query bytes none. scored-same s bytes none l query;
  prepared_kept = λ s directions turned values bytes none. prepared-same s bytes none directions turned values;
  distance_kept = λ s l query bytes none. distance-same s bytes none l query;
  phased_kept = λ s l query bytes none. phased-same s bytes none l query;
  decode_kept = λ s l bytes room none. decode-same s bytes none l room;
  exact_kept = λ s l query bytes none. exact_same s bytes none l query;
  bound_kept = λ s l query bytes none. bound-same s bytes none l query;
  sketch_score_kept = λ s l query sketch. sketched-same s l query sketch;
}

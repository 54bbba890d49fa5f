-- A setup with Hadamard signs is answered as document 01 has it: where its rotation is known, the lists and values by rotation are document 01's. Assumes nothing.
use Prim.Native.Nat.{ℕ}
use mathlib.Core.Path.{◌≡◌, refl, sym, ap, ◌∙◌, subst}
use mathlib.Core.Bool.{false}
use mathlib.Core.List.{List, [], ◌∷◌, ◌++◌}
use lib.Count.{ones}
use lib.Ieee.{Float}
use Rattle.error.specs.Answer.{Answer, Check, value, first}
use Rattle.error.specs.Checks.{wrong_room, wrong_score}
use Rattle.error.proofs.Chains.{first-append, first-clear, first_passes}
use Rattle.setup.specs.Lent.{Lent}
use Rattle.setup.specs.declared.Setup.{Setup}
use Rattle.setup.specs.declared.RotationKind.{RotationKind}
use Rattle.setup.specs.declared.RotationKind.TheVariants.{FastHadamard}
use Rattle.setup.specs.Checks.{bad_rotation_dimension}
use Rattle.setup_tables.specs.Checks.{direction_checks}
use Rattle.qjl.specs.Sketch.{sketch_of}
use Rattle.qjl.specs.Score.{sketch_score_of}
use Rattle.packed.specs.Fields.{dim_of}
use Rattle.packed.specs.Layout.{header_of}
use Rattle.packed.specs.Reading.{unless_withdrawn, radii_of, record_checks}
use Rattle.packed_laws.specs.OtherDimensions.{is_moved_record, record_checks_of_powers}
use Rattle.packed_laws.proofs.OtherDimensions.{other-dimensions}
use Rattle.turbo_order.specs.Scores.{score_of}
use Rattle.turbo_query.specs.Query.{query_checks, prepare_rotated_of, prepare_projected_of}
use Rattle.turbo_opening.specs.Opening.{match_checks, open_record_of}
use Rattle.turbo_opening.proofs.Answers.{opened-dim}
use Rattle.turbo_decode.specs.Decode.{decoded, decode_approximate_of}
use Rattle.turbo_distance.specs.Distance.{distance_from_score_of}
use Rattle.turbo_record.specs.Scoring.{record_score}
use Rattle.turbo_phased.specs.Estimates.{lengths_and_values, inner_product_estimate_of, inner_product_estimate_phased_of, inner_product_estimate_prepared_of}
use Rattle.turbo.specs.Distance.{l2_distance_estimate_of}
use Rattle.turbo.specs.Order.{IsScored}
use Rattle.turbo.proofs.Demand.{scored-open}
use Rattle.turbo_laws.specs.OtherDimensions.{hadamard_scalars, hadamard_setup, hadamard_query, hadamard_score, behind_reading, UnderHadamard, OtherSetups}

-- the checks that stand behind those of a record
reading-same : {A : Type 0} (s : Setup) (bytes : List ℕ) (last : List Check) (a : Answer A) → is_moved_record bytes ≡ false
    → unless_withdrawn bytes (first (record_checks bytes ++ match_checks s bytes ++ last) a) ≡ behind_reading s bytes last a
reading-same s bytes last a is =
    let rest = match_checks s bytes in
    ap (unless_withdrawn bytes)
    (first-append (record_checks bytes ++ rest) last a
    ∙ first-append (record_checks bytes) rest (first last a)
    ∙ other-dimensions.checks_kept bytes (first rest (first last a)) is
    ∙ sym (first-append (record_checks_of_powers bytes) rest (first last a))
    ∙ sym (first-append (record_checks_of_powers bytes ++ rest) last a))

-- a setup with another rotation
abbrev turned_by : Setup → RotationKind → Setup
turned_by s kind = record { mode = s.mode; dim = s.dim; bits = s.bits; projections = s.projections; kind = kind }

under-hadamard : (s : Setup) → UnderHadamard (turned_by s FastHadamard)
unfolding sketch_of sketch_score_of prepare_rotated_of prepare_projected_of open_record_of inner_product_estimate_of inner_product_estimate_phased_of inner_product_estimate_prepared_of l2_distance_estimate_of decode_approximate_of score_of
under-hadamard s =
    let h = turned_by s FastHadamard in
    record {
      setup = λ l. refl;
      sketch = λ l vector room. refl;
      sketch_score = λ l query sketch norm. refl;
      prepare_rotated = λ l query room space. refl;
      prepare_projected = λ l query room space. refl;
      exact = λ l query bytes. refl;
      bound = λ l query bytes. refl;
      opening = λ bytes is. ap (first (hadamard_scalars h)) (reading-same h bytes [] (value (header_of bytes)) is);
      score = λ l query bytes is.
          let x = hadamard_score h l query bytes in
          ap (first (hadamard_query h l query)) (reading-same h bytes (wrong_score x ∷ []) (value x) is);
      phased = λ l query bytes is.
          let x = hadamard_score h l query bytes in
          ap (λ (a : Answer Float). first (hadamard_query h l query) (value a)) (reading-same h bytes (wrong_score x ∷ []) (value x) is);
      prepared = λ directions turned values bytes is.
          let x = record_score h directions turned values bytes in
          ap (first (hadamard_scalars h ++ direction_checks h directions ++ lengths_and_values h turned values)) (reading-same h bytes (wrong_score x ∷ []) (value x) is);
      distance = λ l query bytes is.
          let x = hadamard_score h l query bytes in
          ap (first (hadamard_query h l query)) (reading-same h bytes (wrong_score x ∷ []) (distance_from_score_of query (radii_of bytes) x) is);
      decode = λ l bytes room is. ap (first (hadamard_setup h l)) (reading-same h bytes (wrong_room room h.dim ∷ []) (value (decoded h l bytes)) is);
    }

scored_dimension : (s : Setup) (l : Lent) (query : List Float) (bytes : List ℕ) (x : Float) → IsScored s l query bytes x → bad_rotation_dimension s.kind (dim_of bytes) ≡ false
unfolding inner_product_estimate_of
scored_dimension s l query bytes x scored =
    let k = first_passes (query_checks s l query) tt (first-clear (query_checks s l query) _ scored) in
    ap (bad_rotation_dimension s.kind) (opened-dim s bytes (scored-open s l query bytes scored)) ∙ k.1.1.1.1.0

pub other-setups : OtherSetups
unfolding ones
other-setups = record {
  hadamard = λ s e. subst (λ (k : RotationKind). UnderHadamard (turned_by s k)) (sym e) (under-hadamard s);
  scored_dimension = scored_dimension;
  none_of_514 = (refl, refl);
}

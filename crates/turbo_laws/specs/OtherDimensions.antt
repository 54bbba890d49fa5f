-- Request h) of document 02 adds setups with a stored rotation and moves nothing of those with Hadamard signs: of these, document 01's checks, rotation, exact score and
-- bound stand here, and every call under such a setup is answered by them. What takes a record is claimed of every one that the request does not move
-- (`is_moved_record`): a moved one was 4 by the record's own check, and has the answer of the checks behind it now. Assumes nothing.
use Rattle.std.specs.Prelude.{ℕ, ◌^◌, ◌≡◌, true, false, List, [], ◌∷◌, ◌++◌, map, ℤ, length, Float}
use Rattle.error.specs.Answer.{Answer, value, first, accepted, each, Check}
use Rattle.error.specs.Checks.{wrong_input, wrong_room, wrong_score, bad_value}
use Rattle.rounding.specs.Signed.{◌⊙◌}
use Rattle.rounding.specs.Rows.{projected}
use Rattle.rotation.specs.Checks.{wrong_zero_dimension, wrong_odd_dimension, wrong_power, bad_sign}
use Rattle.rotation.specs.Rotation.{rotated, unrotated}
use Rattle.polar.specs.Polar.{decoded_pairs}
use Rattle.setup.specs.Lent.{Lent}
use Rattle.setup.specs.declared.Setup.{Setup}
use Rattle.setup.specs.declared.RotationKind.TheVariants.{FastHadamard, Stored}
use Rattle.setup.specs.Setups.{directions_needed, matrix_needed, counted_projections_of}
use Rattle.setup.specs.Checks.{wrong_total_bits, wrong_projections, bad_rotation_dimension}
use Rattle.setup_tables.specs.Checks.{bad_direction, setup_checks, direction_checks}
use Rattle.qjl.specs.Sketch.{sign_of_sum, sketch_of}
use Rattle.qjl.specs.Score.{mode_score, sketch_score_of}
use Rattle.packed.specs.Fields.{dim_of}
use Rattle.packed.specs.Layout.{header_of}
use Rattle.packed.specs.Reading.{unless_withdrawn, radii_of, indices_of}
use Rattle.packed_laws.specs.OtherDimensions.{is_moved_record, record_checks_of_powers}
use Rattle.turbo_order.specs.Account.{hadamard_account}
use Rattle.turbo_order.specs.Scores.{score_from, exact_by, bound_by}
use Rattle.turbo_query.specs.Query.{prepare_rotated_of, prepare_projected_of}
use Rattle.turbo_opening.specs.Opening.{content_of, match_checks, open_record_of}
use Rattle.turbo_distance.specs.Distance.{distance_from_score_of}
use Rattle.turbo_decode.specs.Decode.{decode_approximate_of}
use Rattle.turbo_record.specs.Scoring.{record_score}
use Rattle.turbo_phased.specs.Estimates.{lengths_and_values, inner_product_estimate_of, inner_product_estimate_phased_of, inner_product_estimate_prepared_of}
use Rattle.turbo.specs.Distance.{l2_distance_estimate_of}
use Rattle.turbo.specs.Order.{IsScored, exact_of, bound_for}

-- ---- document 01's checks

-- 'Setup: 2, 3, 1, 8, 4, ..'
abbrev pub hadamard_scalars : Setup → List Check
hadamard_scalars s =
    wrong_zero_dimension s.dim
    ∷ wrong_odd_dimension s.dim
    ∷ wrong_total_bits s
    ∷ wrong_projections s.mode s.projections
    ∷ wrong_power s.dim
    ∷ []

-- '.. then 5 for signs, directions, matrix, then 10, 7, 9.'
abbrev pub hadamard_setup : Setup → Lent → List Check
hadamard_setup s l =
    hadamard_scalars s
    ++ (wrong_input (length l.rotation) s.dim
    ∷ wrong_input (length l.directions) (directions_needed s)
    ∷ wrong_input (length l.matrix) (matrix_needed s)
    ∷ each bad_sign 10 l.rotation
    ∷ each bad_direction 7 l.directions
    ∷ each bad_value 9 l.matrix
    ∷ [])

-- 'setup, query length 5, query 11'; of a vector likewise.
abbrev pub hadamard_vector : Setup → Lent → List Float → List Check
hadamard_vector s l vector = hadamard_setup s l ++ (wrong_input (length vector) s.dim ∷ each bad_value 11 vector ∷ [])

-- '.. rotated 11, projected 11': signs first, then butterflies and scale.
abbrev pub hadamard_query : Setup → Lent → List Float → List Check
hadamard_query s l query =
    hadamard_vector s l query
    ++ (each bad_value 11 (rotated s.dim l.rotation query) ∷ each bad_value 11 (projected s.dim (counted_projections_of s) l.matrix query) ∷ [])

abbrev pub hadamard_prepare : Setup → Lent → List Float → ℕ → ℕ → List Check
hadamard_prepare s l query room space = hadamard_query s l query ++ (wrong_room room s.dim ∷ wrong_room space (counted_projections_of s) ∷ [])

-- ---- document 01's score, and what is answered from record reading on

abbrev pub hadamard_score : Setup → Lent → List Float → List ℕ → Float
hadamard_score s l query bytes = score_from s l.directions (rotated s.dim l.rotation query) (projected s.dim s.projections l.matrix query) (content_of bytes)

-- 'record reading, 5, 20', then what else is checked; withdrawn before all of it.
abbrev pub behind_reading : {A : Type 0} → Setup → List ℕ → List Check → Answer A → Answer A
behind_reading s bytes last a = unless_withdrawn bytes (first (record_checks_of_powers bytes ++ match_checks s bytes ++ last) a)

-- ---- the claims

pub record UnderHadamard (s : Setup) : Type 0 where
  pub setup : (l : Lent) → first (setup_checks s l) accepted ≡ first (hadamard_setup s l) accepted
  pub sketch : (l : Lent) (vector : List Float) (room : ℕ)
      → sketch_of s l vector room
      ≡ first (hadamard_vector s l vector ++ (wrong_room room (counted_projections_of s) ∷ [])) (value (map sign_of_sum (projected s.dim (counted_projections_of s) l.matrix vector)))
  pub sketch_score : (l : Lent) (query : List Float) (sketch : List ℤ) (norm : Float)
      → sketch_score_of s l query sketch norm ≡ first (hadamard_vector s l query) (mode_score s.mode s.dim s.projections l.matrix query sketch norm)
  pub prepare_rotated : (l : Lent) (query : List Float) (room space : ℕ)
      → prepare_rotated_of s l query room space ≡ first (hadamard_prepare s l query room space) (value (rotated s.dim l.rotation query))
  pub prepare_projected : (l : Lent) (query : List Float) (room space : ℕ)
      → prepare_projected_of s l query room space ≡ first (hadamard_prepare s l query room space) (value (projected s.dim (counted_projections_of s) l.matrix query))
  pub exact : (l : Lent) (query : List Float) (bytes : List ℕ) → exact_of s l query bytes ≡ 2 ^ 23 ⊙ exact_by (hadamard_account s.dim l.rotation query) s l query (content_of bytes)
  pub bound : (l : Lent) (query : List Float) (bytes : List ℕ) → bound_for s l query bytes ≡ bound_by (hadamard_account s.dim l.rotation query) s l query (content_of bytes)
  -- These take a record.
  pub opening : (bytes : List ℕ) → is_moved_record bytes ≡ false → open_record_of s bytes ≡ first (hadamard_scalars s) (behind_reading s bytes [] (value (header_of bytes)))
  pub score : (l : Lent) (query : List Float) (bytes : List ℕ) → is_moved_record bytes ≡ false
      → inner_product_estimate_of s l query bytes
      ≡ first (hadamard_query s l query) (behind_reading s bytes (wrong_score (hadamard_score s l query bytes) ∷ []) (value (hadamard_score s l query bytes)))
  pub phased : (l : Lent) (query : List Float) (bytes : List ℕ) → is_moved_record bytes ≡ false
      → inner_product_estimate_phased_of s l query bytes
      ≡ first (hadamard_query s l query) (value (behind_reading s bytes (wrong_score (hadamard_score s l query bytes) ∷ []) (value (hadamard_score s l query bytes))))
  pub prepared : (directions turned values : List Float) (bytes : List ℕ) → is_moved_record bytes ≡ false
      → inner_product_estimate_prepared_of s directions turned values bytes
      ≡ first (hadamard_scalars s ++ direction_checks s directions ++ lengths_and_values s turned values)
      (behind_reading s bytes (wrong_score (record_score s directions turned values bytes) ∷ []) (value (record_score s directions turned values bytes)))
  pub distance : (l : Lent) (query : List Float) (bytes : List ℕ) → is_moved_record bytes ≡ false
      → l2_distance_estimate_of s l query bytes
      ≡ first (hadamard_query s l query)
      (behind_reading s bytes (wrong_score (hadamard_score s l query bytes) ∷ []) (distance_from_score_of query (radii_of bytes) (hadamard_score s l query bytes)))
  pub decode : (l : Lent) (bytes : List ℕ) (room : ℕ) → is_moved_record bytes ≡ false
      → decode_approximate_of s l bytes room
      ≡ first (hadamard_setup s l)
      (behind_reading s bytes (wrong_room room s.dim ∷ []) (value (unrotated s.dim l.rotation (decoded_pairs l.directions (indices_of bytes) (radii_of bytes)))))

pub record OtherSetups : Type 0 where
  -- A setup with Hadamard signs is answered as it was.
  pub hadamard : (s : Setup) → s.kind ≡ FastHadamard → UnderHadamard s
  -- A record that is scored has a dimension that its setup can have. One of 514 dimensions, say, no setup can have: it is read and written, and never scored.
  pub scored_dimension : (s : Setup) (l : Lent) (query : List Float) (bytes : List ℕ) (x : Float) → IsScored s l query bytes x → bad_rotation_dimension s.kind (dim_of bytes) ≡ false
  pub none_of_514 : (bad_rotation_dimension FastHadamard 514 ≡ true) × (bad_rotation_dimension Stored 514 ≡ true)

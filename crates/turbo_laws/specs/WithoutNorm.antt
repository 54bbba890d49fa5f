-- Request c) of document 02 moves the scores of records with a norm, and no other. Score, exact score, bound and the answers stand here as document 01 has them,
-- with what requests b), e) and h) moved, and with 'the scale K is root(PI / 2) × 1.0 / m'. A record whose map byte has no bit 2, and a sketch score with the norm 1.0,
-- are answered by these. Assumes nothing.
use Rattle.std.specs.Prelude.{ℕ, ◌+◌, ◌*◌, ◌^◌, ◌≡◌, false, List, [], ◌∷◌, ◌++◌, ℤ, length, Float}
use Rattle.std.specs.Float.{binary32}
use Rattle.std.specs.Float.Ieee.{add}
use Rattle.error.specs.Answer.{Answer, value, first, each}
use Rattle.error.specs.Checks.{wrong_input, wrong_room, wrong_score, bad_value}
use Rattle.float.specs.Constants.{pos_zero, one}
use Rattle.float.specs.Units.{unit}
use Rattle.rounding.specs.Signed.{Diff, ◌⊞◌, ◌⊙◌}
use Rattle.rounding.specs.Sums.{absolute_sum}
use Rattle.rounding.specs.Rows.{projected}
use Rattle.bitpack.specs.Signs.{bad_sketch_sign}
use Rattle.polar.specs.Polar.{polar_sum_of}
use Rattle.qjl_residual.specs.Residual.{scale_of, residual_of}
use Rattle.qjl_residual.specs.Exact.{exact_residual, residual_size}
use Rattle.setup.specs.Lent.{Lent}
use Rattle.setup.specs.declared.Setup.{Setup}
use Rattle.setup.specs.Setups.{by_mode, counted_projections_of}
use Rattle.qjl.specs.Sketch.{vector_checks}
use Rattle.qjl.specs.Score.{sketch_score_of}
use Rattle.packed.specs.Fields.{map_of, has_norm}
use Rattle.packed.specs.Reading.{unless_withdrawn, radii_of, indices_of, signs_of}
use Rattle.packed_laws.specs.WithoutNorm.{former_record_checks}
use Rattle.turbo_order.specs.Scores.{account_of, exact_polar_part, polar_part_size, per_step, per_radius}
use Rattle.turbo_query.specs.Query.{rotated_query, query_checks}
use Rattle.setup.specs.Checks.{scalar_checks}
use Rattle.packed.specs.Layout.{header_of}
use Rattle.turbo_opening.specs.Opening.{content_of, match_checks, open_record_of}
use Rattle.turbo_distance.specs.Distance.{distance_from_score_of}
use Rattle.turbo_decode.specs.Decode.{decoded, decode_approximate_of}
use Rattle.setup_tables.specs.Checks.{setup_checks}
use Rattle.turbo_phased.specs.Estimates.{inner_product_estimate_of, inner_product_estimate_phased_of, prepared_checks, inner_product_estimate_prepared_of}
use Rattle.turbo.specs.Distance.{l2_distance_estimate_of}
use Rattle.turbo.specs.Order.{exact_of, bound_for}

-- ---- the score

-- 'Residual: scale times the sum of sign times projected value; the scale K is root(PI / 2) × 1.0 / m.'
abbrev pub former_residual : ℕ → List Float → List ℤ → Float
former_residual m values signs = residual_of m (one false) values signs

-- 'The score is the polar sum plus the residual, rounded; in `PolarOnly` it is the polar sum.' The query comes rotated, and projected as `values`.
abbrev pub former_score : Setup → List Float → List Float → List Float → List ℕ → Float
former_score s directions turned values bytes =
    by_mode s.mode
    (polar_sum_of turned directions (indices_of bytes) (radii_of bytes))
    (add binary32 (polar_sum_of turned directions (indices_of bytes) (radii_of bytes)) (former_residual s.projections values (signs_of bytes)))

abbrev pub former_estimate : Setup → Lent → List Float → List ℕ → Float
former_estimate s l query bytes = former_score s l.directions (rotated_query s l query) (projected s.dim s.projections l.matrix query) bytes

-- ---- its exact score and its bound, at the scale 2 ^ -619

abbrev pub former_exact : Setup → Lent → List Float → List ℕ → Diff
former_exact s l query bytes =
    2 ^ 23 ⊙ by_mode s.mode
    (exact_polar_part (account_of s l query) l (content_of bytes))
    (exact_polar_part (account_of s l query) l (content_of bytes)
    ⊞ (unit ⊙ exact_residual (scale_of s.projections (one false)) s.dim s.projections l.matrix query (signs_of bytes)))

-- 'A = .., plus K × the sum of all |matrix entry × query entry|'.
abbrev pub former_size : Setup → Lent → List Float → List ℕ → ℕ
former_size s l query bytes =
    by_mode s.mode
    (polar_part_size (account_of s l query) l (content_of bytes))
    (polar_part_size (account_of s l query) l (content_of bytes)
    + unit * residual_size (scale_of s.projections (one false)) s.dim s.projections l.matrix query)

-- 'bound = (n + m + 16) × A / 2^23 + (R + n×m + n) / 2^146', with the first n and the factor of R by the account of the setup's rotation.
abbrev pub former_bound : Setup → Lent → List Float → List ℕ → ℕ
former_bound s l query bytes =
    ((account_of s l query).count + counted_projections_of s + 16) * former_size s l query bytes
    + (per_radius * ((account_of s l query).factor * absolute_sum (radii_of bytes)) + per_step * (s.dim * counted_projections_of s + s.dim))

-- ---- the answers

-- From record reading on, `a` is answered of a record whose score is x: withdrawn, 'record reading, 5, 20, then 12'.
abbrev pub former_reading : {A : Type 0} → Setup → List ℕ → Float → Answer A → Answer A
former_reading s bytes x a = unless_withdrawn bytes (first (former_record_checks bytes ++ match_checks s bytes ++ (wrong_score x ∷ [])) a)

-- 'A sketch score takes lent signs: setup, query length 5, query 11, projected 11, 5 and 10 for the signs, 12; in `PolarOnly` it is 0.'
abbrev pub former_sketch_score : Setup → Lent → List Float → List ℤ → Answer Float
former_sketch_score s l query sketch =
    let values = projected s.dim s.projections l.matrix query in
    let x = former_residual s.projections values sketch in
    first (vector_checks s l query)
    (by_mode s.mode
    (first (wrong_input (length sketch) 0 ∷ []) (value pos_zero))
    (first (each bad_value 11 values ∷ wrong_input (length sketch) s.projections ∷ each bad_sketch_sign 10 sketch ∷ wrong_score x ∷ []) (value x)))

-- ---- the claim

pub record ScoresWithoutNorm : Type 0 where
  pub open_kept : (s : Setup) (bytes : List ℕ) → has_norm (map_of bytes) ≡ false
      → open_record_of s bytes ≡ first (scalar_checks s) (unless_withdrawn bytes (first (former_record_checks bytes ++ match_checks s bytes) (value (header_of bytes))))
  pub score_kept : (s : Setup) (l : Lent) (query : List Float) (bytes : List ℕ) → has_norm (map_of bytes) ≡ false
      → inner_product_estimate_of s l query bytes
      ≡ first (query_checks s l query) (former_reading s bytes (former_estimate s l query bytes) (value (former_estimate s l query bytes)))
  pub prepared_kept : (s : Setup) (directions turned values : List Float) (bytes : List ℕ) → has_norm (map_of bytes) ≡ false
      → inner_product_estimate_prepared_of s directions turned values bytes
      ≡ first (prepared_checks s directions turned values) (former_reading s bytes (former_score s directions turned values bytes) (value (former_score s directions turned values bytes)))
  pub distance_kept : (s : Setup) (l : Lent) (query : List Float) (bytes : List ℕ) → has_norm (map_of bytes) ≡ false
      → l2_distance_estimate_of s l query bytes
      ≡ first (query_checks s l query) (former_reading s bytes (former_estimate s l query bytes) (distance_from_score_of query (radii_of bytes) (former_estimate s l query bytes)))
  pub phased_kept : (s : Setup) (l : Lent) (query : List Float) (bytes : List ℕ) → has_norm (map_of bytes) ≡ false
      → inner_product_estimate_phased_of s l query bytes
      ≡ first (query_checks s l query) (value (former_reading s bytes (former_estimate s l query bytes) (value (former_estimate s l query bytes))))
  pub decode_kept : (s : Setup) (l : Lent) (bytes : List ℕ) (room : ℕ) → has_norm (map_of bytes) ≡ false
      → decode_approximate_of s l bytes room
      ≡ first (setup_checks s l) (unless_withdrawn bytes (first (former_record_checks bytes ++ match_checks s bytes ++ (wrong_room room s.dim ∷ [])) (value (decoded s l bytes))))
  -- Demand 3 holds such a record to this exact score and this bound.
  pub exact_kept : (s : Setup) (l : Lent) (query : List Float) (bytes : List ℕ) → has_norm (map_of bytes) ≡ false → exact_of s l query bytes ≡ former_exact s l query bytes
  pub bound_kept : (s : Setup) (l : Lent) (query : List Float) (bytes : List ℕ) → has_norm (map_of bytes) ≡ false → bound_for s l query bytes ≡ former_bound s l query bytes
  -- A sketch score with the norm 1.0 is document 01's.
  pub sketch_score_kept : (s : Setup) (l : Lent) (query : List Float) (sketch : List ℤ) → sketch_score_of s l query sketch (one false) ≡ former_sketch_score s l query sketch

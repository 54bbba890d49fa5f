-- Score, exact score, bound, distance and decoding of document 01's records P12 and P13 stand here as numbers, and beside them each exact form and each size that a
-- bound is made of; then records with a norm, stored rotations, distances near the top of f32, and withdrawn positions. A definition that stands on the generous side
-- of an inequality could grow without any proof failing: these lines pin it. Assumes nothing.
use Rattle.std.specs.Prelude.{ℕ, ◌+◌, ◌-◌, ◌*◌, ◌^◌, ◌≡◌, true, false, List, [], ◌∷◌, ◌++◌, ltb, pos, negsuc, replicate, Float}
use Rattle.std.specs.Float.{nan, inf, fin, binary32}
use Rattle.std.specs.Float.Ieee.{of_bits}
use Rattle.error.specs.Answer.{value, refused, withdrawn, first, accepted}
use Rattle.float.specs.Constants.{pos_zero, one, two}
use Rattle.rounding.specs.Signed.{Diff, Near, Same, Under, signed}
use Rattle.rounding.specs.Sums.{exact_total, absolute_sum}
use Rattle.rounding.specs.Rows.{exact_projected, projected_sizes}
use Rattle.rotation.specs.Exact.{exact_rotated}
use Rattle.polar.specs.Exact.{exact_polar, polar_size, direction_sum}
use Rattle.setup.specs.declared.Setup.{Setup}
use Rattle.setup.specs.declared.TurboMode.TheVariants.{PolarOnly, PolarWithQjl}
use Rattle.setup.specs.declared.RotationKind.TheVariants.{FastHadamard, Stored}
use Rattle.setup.specs.Lent.{Lent, lent}
use Rattle.setup.specs.Setups.{counted_projections_of}
use Rattle.setup_tables.specs.Checks.{setup_checks}
use Rattle.qjl_residual.specs.Exact.{exact_residual, residual_size}
use Rattle.qjl_residual.specs.Residual.{scale_of}
use Rattle.turbo_order.specs.Scores.{per_unit, per_step, per_radius, account_of}
use Rattle.turbo_phased.specs.Estimates.{inner_product_estimate_of, inner_product_estimate_prepared_of}
use Rattle.turbo.specs.Distance.{l2_distance_estimate_of}
use Rattle.turbo.specs.Order.{exact_of, bound_for}
use Rattle.turbo_laws.specs.Amended.{record_sum, former_distance_of}
use Rattle.turbo_decode.specs.Decode.{decode_approximate_of}
use Rattle.table.specs.Table.{without_signs, with_signs}

-- This setup has n 2 and 1 bit, without residual.
abbrev pub plain_setup : Setup
plain_setup = record { mode = PolarOnly; dim = 2; bits = 1; projections = 0; kind = FastHadamard }

-- This setup has a residual: 2 bits in all, of which 1 is polar, and three projections.
abbrev pub residual_setup : Setup
residual_setup = record { mode = PolarWithQjl; dim = 2; bits = 2; projections = 3; kind = FastHadamard }

-- The signs are + and +, the directions (−1, 0) and (1, 0).
abbrev pub signs_lent : List Float
signs_lent = one false ∷ one false ∷ []

abbrev pub directions_lent : List Float
directions_lent = one true ∷ pos_zero ∷ one false ∷ pos_zero ∷ []

abbrev pub plain_lent : Lent
plain_lent = lent signs_lent directions_lent []

-- The matrix has the rows (1, 1), (1, 0), (1, 1).
abbrev pub matrix_lent : List Float
matrix_lent = one false ∷ one false ∷ one false ∷ pos_zero ∷ one false ∷ one false ∷ []

abbrev pub residual_lent : Lent
residual_lent = lent signs_lent directions_lent matrix_lent

-- The query is (1, 0).
abbrev pub query_lent : List Float
query_lent = one false ∷ pos_zero ∷ []

-- These two are the direction (1, −1) and the query (1, −2).
abbrev pub slanted : List Float
slanted = one false ∷ one true ∷ []

abbrev pub steep : List Float
steep = one false ∷ fin true 1 (pos 1) ∷ []

-- This record is P12 with the radius 2^64, and with the index 0 it points the other way; the query is (2^64, 0).
abbrev pub huge : List ℕ
huge = 0x00 ∷ 0x02 ∷ 0x00 ∷ 0x00 ∷ 0x00 ∷ 0x01 ∷ 0x00 ∷ 0x00 ∷ 0x80 ∷ 0x5F ∷ 0x01 ∷ []

abbrev pub huge_turned : List ℕ
huge_turned = 0x00 ∷ 0x02 ∷ 0x00 ∷ 0x00 ∷ 0x00 ∷ 0x01 ∷ 0x00 ∷ 0x00 ∷ 0x80 ∷ 0x5F ∷ 0x00 ∷ []

abbrev pub huge_query : List Float
huge_query = fin false 1 (pos 64) ∷ pos_zero ∷ []

-- This record has the radius 5 × 2^61, the query is (5 × 2^61, 0), and the direction of index 1 is (1, 1).
abbrev pub large : List ℕ
large = 0x00 ∷ 0x02 ∷ 0x00 ∷ 0x00 ∷ 0x00 ∷ 0x01 ∷ 0x00 ∷ 0x00 ∷ 0x20 ∷ 0x5F ∷ 0x01 ∷ []

abbrev pub large_query : List Float
large_query = fin false 5 (pos 61) ∷ pos_zero ∷ []

abbrev pub diagonal_lent : Lent
diagonal_lent = lent signs_lent (one true ∷ pos_zero ∷ one false ∷ one false ∷ []) []

-- This setup has a residual of one row, (2^100, 0); the query is (7 × 2^25, 0), and the record is P12 with one sign, +.
abbrev pub row_setup : Setup
row_setup = record { mode = PolarWithQjl; dim = 2; bits = 2; projections = 1; kind = FastHadamard }

abbrev pub row_lent : Lent
row_lent = lent signs_lent directions_lent (fin false 1 (pos 100) ∷ pos_zero ∷ [])

abbrev pub row_query : List Float
row_query = fin false 7 (pos 25) ∷ pos_zero ∷ []

abbrev pub with_one_sign : List ℕ
with_one_sign = 0x02 ∷ 0x02 ∷ 0x00 ∷ 0x00 ∷ 0x00 ∷ 0x01 ∷ 0x01 ∷ 0x00 ∷ 0x00 ∷ 0x00 ∷ 0x00 ∷ 0x00 ∷ 0x80 ∷ 0x3F ∷ 0x01 ∷ 0x01 ∷ []

-- These records are P13 with the norm 1.5, and with the largest f32 as its norm.
abbrev pub with_norm : List ℕ
with_norm = 0x06 ∷ 0x02 ∷ 0x00 ∷ 0x00 ∷ 0x00 ∷ 0x01 ∷ 0x03 ∷ 0x00 ∷ 0x00 ∷ 0x00 ∷ 0x00 ∷ 0x00 ∷ 0xC0 ∷ 0x3F ∷ 0x00 ∷ 0x00 ∷ 0x80 ∷ 0x3F ∷ 0x01 ∷ 0x05 ∷ []

abbrev pub with_largest : List ℕ
with_largest = 0x06 ∷ 0x02 ∷ 0x00 ∷ 0x00 ∷ 0x00 ∷ 0x01 ∷ 0x03 ∷ 0x00 ∷ 0x00 ∷ 0x00 ∷ 0xFF ∷ 0xFF ∷ 0x7F ∷ 0x7F ∷ 0x00 ∷ 0x00 ∷ 0x80 ∷ 0x3F ∷ 0x01 ∷ 0x05 ∷ []

-- This record has the radius 0, the norm 2^20 and one sign, +; the one row is (2^−75, 0), and so is the query.
abbrev pub tiny : List ℕ
tiny = 0x06 ∷ 0x02 ∷ 0x00 ∷ 0x00 ∷ 0x00 ∷ 0x01 ∷ 0x01 ∷ 0x00 ∷ 0x00 ∷ 0x00 ∷ 0x00 ∷ 0x00 ∷ 0x80 ∷ 0x49 ∷ 0x00 ∷ 0x00 ∷ 0x00 ∷ 0x00 ∷ 0x01 ∷ 0x01 ∷ []

abbrev pub tiny_query : List Float
tiny_query = fin false 1 (negsuc 74) ∷ pos_zero ∷ []

abbrev pub tiny_lent : Lent
tiny_lent = lent signs_lent directions_lent tiny_query

-- This setup has a stored rotation. Its matrix is lent column by column, (1, 2) and (3, 4), so that its rows are (1, 3) and (2, 4).
abbrev pub stored_setup : Setup
stored_setup = record { mode = PolarOnly; dim = 2; bits = 1; projections = 0; kind = Stored }

abbrev pub stored_lent : Lent
stored_lent = lent (one false ∷ two ∷ fin false 3 (pos 0) ∷ fin false 1 (pos 2) ∷ []) directions_lent []

-- This one has ten dimensions. Every entry of its matrix and of the query is 2^−75, and the direction of index 1 is (1, 1). The record has the radius 2^20 and four
-- radii of 0.
abbrev pub faint_setup : Setup
faint_setup = record { mode = PolarOnly; dim = 10; bits = 1; projections = 0; kind = Stored }

abbrev pub faint : Float
faint = fin false 1 (negsuc 74)

abbrev pub faint_lent : Lent
faint_lent = lent (replicate 100 faint) (one true ∷ pos_zero ∷ one false ∷ one false ∷ []) []

abbrev pub faint_query : List Float
faint_query = replicate 10 faint

abbrev pub faint_record : List ℕ
faint_record = 0x00 ∷ 0x0A ∷ 0x00 ∷ 0x00 ∷ 0x00 ∷ 0x01 ∷ 0x00 ∷ 0x00 ∷ 0x80 ∷ 0x49 ∷ replicate 16 0 ++ (0x1F ∷ [])

-- This is n as a whole number with a sign.
abbrev pub whole : ℕ → Diff
whole n = signed false n

pub record Anchors : Type 0 where
  -- ---- P12: 1/sqrt(2) is 11863283 / 2^24 as an f32, and so is the score
  pub p12_score : inner_product_estimate_of plain_setup plain_lent query_lent without_signs ≡ value (of_bits binary32 0x3F35_04F3)
  pub p12_exact : Same (exact_of plain_setup plain_lent query_lent without_signs) (whole (11863283 * 2 ^ 595))
  pub p12_bound : bound_for plain_setup plain_lent query_lent without_signs ≡ 18 * 11863283 * 2 ^ 572 + 2 ^ 473 + 2 ^ 474
  -- The distance is 4913933 / 2^23.
  pub p12_distance : l2_distance_estimate_of plain_setup plain_lent query_lent without_signs ≡ value (of_bits binary32 0x3F15_F61A)
  pub p12_decoded : decode_approximate_of plain_setup plain_lent without_signs 2 ≡ value (of_bits binary32 0x3F35_04F3 ∷ of_bits binary32 0x3F35_04F3 ∷ [])
  -- ---- P13: K is 14018081 / 2^25 as an f32, and the score 4718081 / 2^22
  pub p13_score : inner_product_estimate_of residual_setup residual_lent query_lent with_signs ≡ value (of_bits binary32 0x3F8F_FC02)
  pub p13_exact : Same (exact_of residual_setup residual_lent query_lent with_signs) (whole (11863283 * 2 ^ 595 + 14018081 * 2 ^ 594))
  pub p13_bound : bound_for residual_setup residual_lent query_lent with_signs ≡ 21 * (11863283 * 2 ^ 572 + 3 * 14018081 * 2 ^ 571) + 2 ^ 473 + 8 * 2 ^ 473
  -- 1 + 1 − 2 × score is below zero, so it is cut
  pub p13_distance : l2_distance_estimate_of residual_setup residual_lent query_lent with_signs ≡ value pos_zero
  pub p13_decoded : decode_approximate_of residual_setup residual_lent with_signs 2 ≡ value (of_bits binary32 0x3F35_04F3 ∷ of_bits binary32 0x3F35_04F3 ∷ [])
  -- ---- P13 with the norm 1.5: K is 10513561 / 2^24 as an f32, and in the bound 2 × 3 is multiplied by 2
  pub norm_score : inner_product_estimate_of residual_setup residual_lent query_lent with_norm ≡ value (of_bits binary32 0x3FAA_B8C6)
  pub norm_exact : Same (exact_of residual_setup residual_lent query_lent with_norm) (whole (11863283 * 2 ^ 595 + 10513561 * 2 ^ 595))
  pub norm_bound : bound_for residual_setup residual_lent query_lent with_norm ≡ 21 * (11863283 * 2 ^ 572 + 3 * 10513561 * 2 ^ 572) + 2 ^ 473 + 14 * 2 ^ 473
  pub norm_decoded : decode_approximate_of residual_setup residual_lent with_norm 2 ≡ value (of_bits binary32 0x3F35_04F3 ∷ of_bits binary32 0x3F35_04F3 ∷ [])
  -- A norm above the largest f32 / 1.2533 makes K infinite.
  pub largest_score : inner_product_estimate_of residual_setup residual_lent query_lent with_largest ≡ refused 12 0
  -- 2^−150 is rounded to 0, and K is 10513561 / 2^3. With the factor left out of the bound the exact score would lie outside it.
  pub tiny_score : inner_product_estimate_of row_setup tiny_lent tiny_query tiny ≡ value pos_zero
  pub tiny_exact : Same (exact_of row_setup tiny_lent tiny_query tiny) (whole (10513561 * 2 ^ 466))
  pub tiny_bound : bound_for row_setup tiny_lent tiny_query tiny ≡ 19 * 10513561 * 2 ^ 443 + (2 * 2 ^ 20 + 2) * 2 ^ 473
  pub tiny_outside : ltb (19 * 10513561 * 2 ^ 443 + (2 + 2) * 2 ^ 473) (10513561 * 2 ^ 466) ≡ true
  -- ---- a stored rotation: the query (1, −2) rotated is (−5, −6), and of its first entry the sum of |matrix entry × query entry| is 7
  pub stored_score : inner_product_estimate_of stored_setup stored_lent steep without_signs ≡ value (fin true 5 (pos 0))
  pub stored_exact : Same (exact_of stored_setup stored_lent steep without_signs) (signed true (5 * 2 ^ 619))
  -- 2n + m + 16 is 20, and R is multiplied by 2
  pub stored_bound : bound_for stored_setup stored_lent steep without_signs ≡ 20 * 7 * 2 ^ 596 + 2 * 2 ^ 473 + 2 * 2 ^ 473
  -- 5 + 1 − 2 × −5
  pub stored_distance : l2_distance_estimate_of stored_setup stored_lent steep without_signs ≡ value (fin false 1 (pos 4))
  -- (1, 0) times the columns
  pub stored_decoded : decode_approximate_of stored_setup stored_lent without_signs 2 ≡ value (one false ∷ fin false 3 (pos 0) ∷ [])
  -- Of the matrix (1, 2, NaN, 4) the third entry that is lent is named: by rows it would be the second. 8 comes before 26, and 26 before 5.
  pub stored_entry : first (setup_checks stored_setup (lent (one false ∷ two ∷ nan ∷ fin false 1 (pos 2) ∷ []) directions_lent [])) accepted ≡ refused 9 2
  pub stored_eight : first (setup_checks (record { mode = PolarWithQjl; dim = 514; bits = 2; projections = 0; kind = Stored }) stored_lent) accepted ≡ refused 8 0
  pub stored_large : first (setup_checks (record { mode = PolarOnly; dim = 514; bits = 1; projections = 0; kind = Stored }) stored_lent) accepted ≡ refused 26 0
  -- Each product 2^−150 is rounded to 0, ten for either entry. With R not multiplied by 10 in the bound the exact score would lie outside it.
  pub faint_score : inner_product_estimate_of faint_setup faint_lent faint_query faint_record ≡ value pos_zero
  pub faint_exact : Same (exact_of faint_setup faint_lent faint_query faint_record) (whole (20 * 2 ^ 489))
  pub faint_bound : bound_for faint_setup faint_lent faint_query faint_record ≡ 36 * 20 * 2 ^ 466 + 10 * 2 ^ 493 + 10 * 2 ^ 473
  pub faint_outside : ltb (36 * 20 * 2 ^ 466 + 2 ^ 493 + 10 * 2 ^ 473) (20 * 2 ^ 489) ≡ true
  -- ---- near the top of f32: the score of the huge record is 11863283 × 2^104, and both norms and twice the score are plus infinity, so the sum is NaN
  pub huge_score : inner_product_estimate_of plain_setup plain_lent huge_query huge ≡ value (of_bits binary32 0x7F35_04F3)
  pub huge_sum : record_sum plain_setup plain_lent huge_query huge ≡ nan
  pub huge_distance : l2_distance_estimate_of plain_setup plain_lent huge_query huge ≡ refused 12 0
  -- It was 0 before request e) of document 02.
  pub huge_former : former_distance_of plain_setup plain_lent huge_query huge ≡ value pos_zero
  -- Turned, twice the score is minus infinity, and the sum plus infinity.
  pub turned_score : inner_product_estimate_of plain_setup plain_lent huge_query huge_turned ≡ value (of_bits binary32 0xFF35_04F3)
  pub turned_sum : record_sum plain_setup plain_lent huge_query huge_turned ≡ inf false
  pub turned_distance : l2_distance_estimate_of plain_setup plain_lent huge_query huge_turned ≡ refused 12 0
  -- Of the large record and its query both norms and their sum are finite, and twice the score is plus infinity, so the sum is minus infinity.
  pub large_sum : record_sum plain_setup diagonal_lent large_query large ≡ inf true
  pub large_distance : l2_distance_estimate_of plain_setup diagonal_lent large_query large ≡ value pos_zero
  -- By the one row a score is plus infinity and its sum minus infinity, which is not cut: the score's own 12 comes first.
  pub row_sum : record_sum row_setup row_lent row_query with_one_sign ≡ inf true
  pub row_distance : l2_distance_estimate_of row_setup row_lent row_query with_one_sign ≡ refused 12 0
  -- ---- no bytes: the query's checks come first, and 6 does not; one byte is 13
  pub none_score : inner_product_estimate_of plain_setup plain_lent query_lent [] ≡ withdrawn
  pub none_query : inner_product_estimate_of plain_setup plain_lent [] [] ≡ refused 5 0
  pub none_prepared : inner_product_estimate_prepared_of plain_setup directions_lent query_lent [] [] ≡ withdrawn
  pub none_unprepared : inner_product_estimate_prepared_of plain_setup directions_lent [] [] [] ≡ refused 5 0
  pub none_distance : l2_distance_estimate_of plain_setup plain_lent query_lent [] ≡ withdrawn
  pub none_decoded : decode_approximate_of plain_setup plain_lent [] 0 ≡ withdrawn
  pub none_setup : decode_approximate_of residual_setup plain_lent [] 2 ≡ refused 5 0
  pub short_score : inner_product_estimate_of plain_setup plain_lent query_lent (0 ∷ []) ≡ refused 13 1
  pub short_decoded : decode_approximate_of plain_setup plain_lent (0 ∷ []) 2 ≡ refused 13 1
  -- ---- what demand 3 compares with: 5 and 3 are 2 apart and not 1, 3 is below 5 by more than 1 and not by more than 2, 5 is not below 3, and 5 − 2 is 3 − 0
  pub near : Near (whole 5) (whole 3) 2
  pub near_turned : Near (whole 3) (whole 5) 2
  pub not_near : Near (whole 5) (whole 3) 1 → ⊥
  pub not_near_turned : Near (whole 3) (whole 5) 1 → ⊥
  pub under : Under 1 (whole 3) (whole 5)
  pub not_under : Under 2 (whole 3) (whole 5) → ⊥
  pub not_under_turned : Under 0 (whole 5) (whole 3) → ⊥
  pub same : Same (record { plus = 5; minus = 2 }) (whole 3)
  pub not_same : Same (whole 5) (whole 3) → ⊥
  -- ---- how many of 2^−619 make 2^−149, 1 / 2^146 and 2^−149 / 2^146
  pub per_unit_is : per_unit ≡ 2 ^ (619 - 149)
  pub per_step_is : per_step ≡ 2 ^ (619 - 146)
  pub per_radius_is : per_radius ≡ 2 ^ (619 - 149 - 146)
  -- ---- 'In `PolarOnly` m counts as 0'
  pub counted_without : counted_projections_of (record { mode = PolarOnly; dim = 2; bits = 1; projections = 3; kind = FastHadamard }) ≡ 0
  pub counted_with : counted_projections_of residual_setup ≡ 3
  -- ---- what they are made of, each at its own scale
  pub rotated_exact : exact_rotated 2 signs_lent query_lent ≡ whole (11863283 * 2 ^ 274) ∷ whole (11863283 * 2 ^ 274) ∷ []
  pub query_size : absolute_sum steep ≡ 3 * 2 ^ 149
  -- Each size is 1/sqrt(2) times the sum of the query's absolute values.
  pub rotated_size : (account_of plain_setup plain_lent steep).sizes ≡ 3 * 11863283 * 2 ^ 274 ∷ 3 * 11863283 * 2 ^ 274 ∷ []
  -- The radius is 1, in the direction (1, −1).
  pub polar_exact : Same (exact_polar (whole 3 ∷ whole 5 ∷ []) slanted (0 ∷ []) (one false ∷ [])) (signed true (2 * 2 ^ 298))
  pub polar_size_is : polar_size (3 ∷ 5 ∷ []) slanted (0 ∷ []) (one false ∷ []) ≡ 8 * 2 ^ 298
  pub direction_size : direction_sum slanted (0 ∷ []) (one false ∷ []) ≡ 2 * 2 ^ 298
  -- The query (1, −2) on the rows (1, 1), (1, 0), (1, 1) gives −1, 1, −1, of the sizes 3, 1, 3.
  pub projected_exact : Same (exact_total (exact_projected 2 3 matrix_lent steep)) (signed true (2 ^ 298))
  pub projected_size : projected_sizes 2 3 matrix_lent steep ≡ 3 * 2 ^ 298 ∷ 2 ^ 298 ∷ 3 * 2 ^ 298 ∷ []
  pub residual_exact : Same (exact_residual (scale_of 3 (one false)) 2 3 matrix_lent query_lent (pos 1 ∷ negsuc 0 ∷ pos 1 ∷ [])) (whole (14018081 * 2 ^ 422))
  pub residual_size_is : residual_size (scale_of 3 (one false)) 2 3 matrix_lent query_lent ≡ 3 * 14018081 * 2 ^ 422

-- The anchors hold: each is computed. Assumes nothing.
use mathlib.Core.Path.{refl}
use native.Mathlib.Omega.{arith}
use lib.Count.{ones, ones_in, count_trailing_zeros}
use lib.Ieee.{of_bits, add, sub, mul, div, lt, le, ne, of_int, is_nan}
use Rattle.bitpack.specs.Padding.{bad_padding}
use Rattle.digits.specs.Digits.{number, digits}
use Rattle.error.specs.Answer.{place}
use Rattle.error.specs.Checks.{bad_value}
use Rattle.float.specs.Bytes.{of_le_bytes}
use Rattle.float.specs.Constants.{pi}
use Rattle.float.specs.SquareRoot.{root_bits, nearest_root, dropped, root_pattern, square_root}
use Rattle.float.specs.Units.{unit, mag}
use Rattle.lists.specs.Chunks.{chunks}
use Rattle.packed.specs.Fields.{bounds_of, projections_of, norm_of}
use Rattle.packed.specs.Layout.{radii_bytes, indices_bytes, signs_bytes}
use Rattle.packed.specs.Reading.{radii_of, indices_of, signs_of}
use Rattle.polar.specs.Exact.{exact_term, exact_polar, size_term, polar_size, direction_term, direction_sum}
use Rattle.polar.specs.Polar.{term, polar_sum_of, laid, decoded_pairs}
use Rattle.qjl_residual.specs.Exact.{exact_residual, residual_size, whole_norm}
use Rattle.qjl_residual.specs.Residual.{root, scale_of, sign_sum_of, residual_of}
use Rattle.rotation.specs.Exact.{exact_rotated}
use Rattle.rotation.specs.Rotation.{inverse_root, scaled, hadamard_of, rotated, unrotated}
use Rattle.rotation_stored.specs.Exact.{exact_stored, stored_sizes}
use Rattle.rotation_stored.specs.Stored.{row_of, stored_rotated, stored_unrotated}
use Rattle.rounding.specs.Butterfly.{from, entry, stage, stages}
use Rattle.rounding.specs.Rows.{projected, exact_projected, projected_sizes}
use Rattle.rounding.specs.Sums.{running, products, exact_total, exact_products, turned_each, sum, absolute_sum, weighted}
use Rattle.rounding.specs.Value.{val}
use Rattle.setup_tables.specs.Checks.{bad_direction}
use Rattle.turbo_distance.specs.Distance.{distance_sum, cut_at_zero, distance_by_sum}
use Rattle.turbo.specs.Distance.{l2_distance_estimate_of}
use Rattle.turbo_laws.specs.Amended.{former_distance_of}
use Rattle.turbo_phased.specs.Estimates.{inner_product_estimate_of, inner_product_estimate_prepared_of}
use Rattle.turbo_decode.specs.Decode.{decode_approximate_of}
use Rattle.turbo_order.specs.Scores.{score_from, exact_by, size_by, per_unit, per_step, per_radius, bound_by, score_of}
use Rattle.anchors.specs.Anchors.{Anchors}

pub anchors : Anchors
unfolding ne ones ones_in count_trailing_zeros of_bits add sub mul div lt le of_int bad_padding number digits place bad_value of_le_bytes pi root_bits nearest_root dropped root_pattern square_root unit mag chunks bounds_of projections_of norm_of radii_bytes indices_bytes signs_bytes radii_of indices_of signs_of exact_term exact_polar size_term polar_size direction_term direction_sum term polar_sum_of laid decoded_pairs exact_residual residual_size whole_norm root scale_of sign_sum_of residual_of exact_rotated row_of stored_rotated stored_unrotated exact_stored stored_sizes inverse_root scaled hadamard_of rotated unrotated from entry stage stages projected exact_projected projected_sizes running products exact_total exact_products turned_each sum absolute_sum weighted val bad_direction is_nan distance_sum cut_at_zero distance_by_sum l2_distance_estimate_of former_distance_of inner_product_estimate_of inner_product_estimate_prepared_of decode_approximate_of score_from exact_by size_by per_unit per_step per_radius bound_by score_of
anchors = record {
  p12_score = refl;
  p12_exact = record { even = refl };
  p12_bound = refl;
  p12_distance = refl;
  p12_decoded = refl;
  p13_score = refl;
  p13_exact = record { even = refl };
  p13_bound = refl;
  p13_distance = refl;
  p13_decoded = refl;
  norm_score = refl;
  norm_exact = record { even = refl };
  norm_bound = refl;
  norm_decoded = refl;
  largest_score = refl;
  tiny_score = refl;
  tiny_exact = record { even = refl };
  tiny_bound = refl;
  tiny_outside = refl;
  stored_score = refl;
  stored_exact = record { even = refl };
  stored_bound = refl;
  stored_distance = refl;
  stored_decoded = refl;
  stored_entry = refl;
  stored_eight = refl;
  stored_large = refl;
  faint_score = refl;
  faint_exact = record { even = refl };
  faint_bound = refl;
  faint_outside = refl;
  huge_score = refl;
  huge_sum = refl;
  huge_distance = refl;
  huge_former = refl;
  turned_score = refl;
  turned_sum = refl;
  turned_distance = refl;
  large_sum = refl;
  large_distance = refl;
  row_sum = refl;
  row_distance = refl;
  none_score = refl;
  none_query = refl;
  none_prepared = refl;
  none_unprepared = refl;
  none_distance = refl;
  none_decoded = refl;
  none_setup = refl;
  short_score = refl;
  short_decoded = refl;
  near = record { above = omega arith; below = omega arith };
  near_turned = record { above = omega arith; below = omega arith };
  not_near = λ n. omega (arith, n.above);
  not_near_turned = λ n. omega (arith, n.below);
  under = record { strict = omega arith };
  not_under = λ u. omega (arith, u.strict);
  not_under_turned = λ u. omega (arith, u.strict);
  same = record { even = refl };
  not_same = λ s. omega (arith, s.even);
  per_unit_is = refl;
  per_step_is = refl;
  per_radius_is = refl;
  counted_without = refl;
  counted_with = refl;
  rotated_exact = refl;
  query_size = refl;
  rotated_size = refl;
  polar_exact = record { even = refl };
  polar_size_is = refl;
  direction_size = refl;
  projected_exact = record { even = refl };
  projected_size = refl;
  residual_exact = record { even = refl };
  residual_size_is = refl;
}

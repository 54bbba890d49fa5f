-- The polar sum without rounding is defined over any rotation, whose exact entries are whole numbers xs of some unit. Beside it stands what bounds its size. In
-- document 01's words it is 'the sum over pairs of r × (qa × c + qb × s), with r the pair's radius as read from the record, (c, s) the table's direction for its
-- index, and (qa, qb) its two entries of the query rotated without rounding'. Assumes nothing.
use Rattle.std.specs.Prelude.{ℕ, ◌+◌, ◌*◌, List, map, slice_index, slice_index_or, Float}
use Rattle.rounding.specs.Signed.{Diff, nought, ◌⊞◌, ◌⊠◌}
use Rattle.rounding.specs.Value.{val}
use Rattle.float.specs.Units.{mag}
use Rattle.rounding.specs.Sums.{exact_total, sum}
use Rattle.polar.specs.Polar.{value_at, cosine, sine, pairs}

-- ---- the exact sum
-- This is (qa × c + qb × s) × r of pair i.
unfoldable pub exact_term : List Diff → List Float → List ℕ → List Float → ℕ → Diff
exact_term xs directions indices radii i =
    (slice_index_or xs (2 * i) nought ⊠ val (cosine directions indices i) ⊞ slice_index_or xs (2 * i + 1) nought ⊠ val (sine directions indices i)) ⊠ val (value_at radii i)

unfoldable pub exact_polar : List Diff → List Float → List ℕ → List Float → Diff
exact_polar xs directions indices radii = exact_total (map (λ i. exact_term xs directions indices radii i) (pairs radii))

-- ---- its size, where bs bound the sizes of the exact entries
-- This is |r| × (|c| × ba + |s| × bb) of pair i, with ba and bb the pair's two entries of bs.
unfoldable pub size_term : List ℕ → List Float → List ℕ → List Float → ℕ → ℕ
size_term bs directions indices radii i =
    mag (value_at radii i) * (mag (cosine directions indices i) * slice_index bs (2 * i) + mag (sine directions indices i) * slice_index bs (2 * i + 1))

unfoldable pub polar_size : List ℕ → List Float → List ℕ → List Float → ℕ
polar_size bs directions indices radii = sum (map (λ i. size_term bs directions indices radii i) (pairs radii))

-- ---- 'sum of r(|c| + |s|)' (document 01)
unfoldable pub direction_term : List Float → List ℕ → List Float → ℕ → ℕ
direction_term directions indices radii i = mag (value_at radii i) * (mag (cosine directions indices i) + mag (sine directions indices i))

unfoldable pub direction_sum : List Float → List ℕ → List Float → ℕ
direction_sum directions indices radii = sum (map (λ i. direction_term directions indices radii i) (pairs radii))

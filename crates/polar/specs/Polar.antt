-- These are the polar sum and the pairs of a decoded code, each step rounded once, in pair order. Pair i has the entries 2 i and 2 i + 1 of the rotated query, its
-- radius, and the direction that its index names: the entries 2 j and 2 j + 1 of the table, for index j. A float that is missing counts as +0.0, and an index that
-- is missing as 0, so that every list has an answer. Assumes nothing.
use Rattle.std.specs.Prelude.{ℕ, ◌+◌, ◌*◌, List, [], ◌∷◌, map, length, slice_index, slice_index_or, Float}
use Rattle.std.specs.Float.{binary32}
use Rattle.std.specs.Float.Ieee.{add, mul}
use Rattle.error.specs.Answer.{Answer, value, first}
use Rattle.error.specs.Checks.{wrong_room}
use Rattle.rounding.specs.Butterfly.{from}
use Rattle.rounding.specs.Sums.{total}
use Rattle.float.specs.Constants.{pos_zero}

-- ---- what a pair has
-- This is the float at index i, or +0.0 where there is none.
abbrev pub value_at : List Float → ℕ → Float
value_at vs i = slice_index_or vs i pos_zero

-- The direction of pair i starts at this entry of the table.
abbrev pub direction_at : List ℕ → ℕ → ℕ
direction_at indices i = 2 * slice_index indices i

-- These are the cosine and the sine of pair i of the code, from the table's direction pair that its index names. 'Direction pair i holds the host's cosine and sine'
-- (document 01), with i that index.
abbrev pub cosine : List Float → List ℕ → ℕ → Float
cosine directions indices i = value_at directions (direction_at indices i)

abbrev pub sine : List Float → List ℕ → ℕ → Float
sine directions indices i = value_at directions (direction_at indices i + 1)

-- These are the pairs in their order, one for each radius.
abbrev pub pairs : List Float → List ℕ
pairs radii = from 0 (length radii)

-- ---- the polar sum
-- This is 'r × (qa × c + qb × s)' (document 01) of pair i: products and sum are separate roundings.
unfoldable pub term : List Float → List Float → List ℕ → List Float → ℕ → Float
term rotated directions indices radii i =
    mul binary32 (value_at radii i)
    (add binary32
    (mul binary32 (value_at rotated (2 * i)) (cosine directions indices i))
    (mul binary32 (value_at rotated (2 * i + 1)) (sine directions indices i)))

-- 'Polar sum: r × (qa × c + qb × s), added in pair order'; 'Sums run in index order from +0.0.'
unfoldable pub polar_sum_of : List Float → List Float → List ℕ → List Float → Float
polar_sum_of rotated directions indices radii = total (map (λ i. term rotated directions indices radii i) (pairs radii))

-- ---- the pairs of a decoded code
-- The list has two floats for each item, first f of it, then g of it.
unfoldable pub laid : (ℕ → Float) → (ℕ → Float) → List ℕ → List Float
laid f g [] = []
laid f g (i ∷ is) = f i ∷ g i ∷ laid f g is

-- These two are r × c and r × s of pair i.
abbrev pub along : List Float → List ℕ → List Float → ℕ → Float
along directions indices radii i = mul binary32 (value_at radii i) (cosine directions indices i)

abbrev pub across : List Float → List ℕ → List Float → ℕ → Float
across directions indices radii i = mul binary32 (value_at radii i) (sine directions indices i)

-- These are the decoded entries: r × c and r × s of the first pair, then those of the second, and on.
unfoldable pub decoded_pairs : List Float → List ℕ → List Float → List Float
decoded_pairs directions indices radii = laid (along directions indices radii) (across directions indices radii) (pairs radii)

-- This is what `polar_pairs` answers; `room` is the output's length.
unfoldable pub polar_pairs_of : List Float → List ℕ → List Float → ℕ → Answer (List Float)
polar_pairs_of directions indices radii room = first (wrong_room room (2 * length radii) ∷ []) (value (decoded_pairs directions indices radii))

-- The stored rotation without rounding takes the same sums over whole numbers, with the matrix's entries as the floats that they are. An entry of the result is a whole
-- number of units of 2 ^ -298, since a matrix entry is a whole number of units of 2 ^ -149 and so is a value. Beside it stands the sum that bounds it. Assumes nothing.
use Rattle.std.specs.Prelude.{ℕ, List, map, Float}
use Rattle.float.specs.Units.{mag}
use Rattle.rounding.specs.Butterfly.{from}
use Rattle.rounding.specs.Signed.{Diff}
use Rattle.rounding.specs.Value.{val}
use Rattle.rounding.specs.Sums.{exact_dot, sum, weighted}
use Rattle.rotation_stored.specs.Stored.{row_of}

-- 'the query rotated without rounding' (document 01): for each row this is the exact sum of its entries times the query's.
unfoldable pub exact_stored : ℕ → List Float → List Float → List Diff
exact_stored n matrix xs = map (λ i. exact_dot (map val (row_of n matrix i)) (map val xs)) (from 0 n)

-- 'its rotated entry's sum of |matrix entry × query entry|' (document 02), for each entry.
unfoldable pub stored_sizes : ℕ → List Float → List Float → List ℕ
stored_sizes n matrix xs = map (λ i. sum (weighted xs (map mag (row_of n matrix i)))) (from 0 n)

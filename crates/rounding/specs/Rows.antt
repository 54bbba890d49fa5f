-- A vector is projected on the rows of a matrix that is lent row by row: row j holds the n entries from j × n on. Each value is the dot product of a row and the
-- vector, every product and every sum rounded. Beside it stand the value without rounding and the sum of absolute values that bounds it. Assumes nothing.
use Rattle.std.specs.Prelude.{ℕ, List, map, Float}
use Rattle.lists.specs.Chunks.{chunks}
use Rattle.rounding.specs.Signed.{Diff}
use Rattle.rounding.specs.Value.{val}
use Rattle.float.specs.Units.{mag}
use Rattle.rounding.specs.Sums.{dot, exact_dot, sum, weighted}

-- For each of the first m rows of n entries this is the sum of its entries times the query's. Document 01: 'Sums run in index order from +0.0.'
unfoldable pub projected : ℕ → ℕ → List Float → List Float → List Float
projected n m matrix query = map (λ row. dot row query) (chunks n m matrix)

-- 'the query projected without rounding': for each row this is the exact sum of its entries times the query's, in units of 2^−298.
unfoldable pub exact_projected : ℕ → ℕ → List Float → List Float → List Diff
exact_projected n m matrix query = map (λ row. exact_dot (map val row) (map val query)) (chunks n m matrix)

-- For each row this is the sum of all |matrix entry × query entry|, in units of 2^−298.
unfoldable pub projected_sizes : ℕ → ℕ → List Float → List Float → List ℕ
projected_sizes n m matrix query = map (λ row. sum (weighted query (map mag row))) (chunks n m matrix)

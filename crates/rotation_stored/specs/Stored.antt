-- The stored rotation and its inverse stand here, each step rounded once as in the Rust, and what a call of either answers. Document 02: '`StoredRotation` with a lent
-- column-major matrix: `apply` sums along rows, `apply_inverse` along columns.' Assumes nothing.
use Rattle.std.specs.Prelude.{ℕ, ◌+◌, ◌*◌, List, map, length, get_or, Float}
use Rattle.std.specs.Float.{nan}
use Rattle.error.specs.Answer.{Answer, value, first}
use Rattle.rounding.specs.Butterfly.{from}
use Rattle.rounding.specs.Sums.{dot}
use Rattle.rounding.specs.Rows.{projected}
use Rattle.rotation_stored.specs.Checks.{stored_checks}

-- This is row i of a matrix of n columns that is lent column by column, n entries each: the entry of row i and column j stands at j × n + i.
unfoldable pub row_of : ℕ → List Float → ℕ → List Float
row_of n matrix i = map (λ j. get_or matrix (j * n + i) nan) (from 0 n)

-- '`apply` sums along rows': for each row this is the sum of its entries times the vector's. 'Sums run in index order from +0.0' (document 01).
unfoldable pub stored_rotated : ℕ → List Float → List Float → List Float
stored_rotated n matrix xs = map (λ i. dot (row_of n matrix i) xs) (from 0 n)

-- '`apply_inverse` along columns': column j holds the n entries from j × n on, so that this is the projection on what the matrix holds, n entries by n entries.
unfoldable pub stored_unrotated : ℕ → List Float → List Float → List Float
stored_unrotated n matrix ys = projected n n matrix ys

-- These are the answers of the two calls; values that aren't finite pass through. `room` is the output's length.
unfoldable pub stored_apply_of : ℕ → List Float → List Float → ℕ → Answer (List Float)
stored_apply_of n matrix xs room = first (stored_checks n matrix (length xs) room) (value (stored_rotated n matrix xs))

unfoldable pub stored_apply_inverse_of : ℕ → List Float → List Float → ℕ → Answer (List Float)
stored_apply_inverse_of n matrix ys room = first (stored_checks n matrix (length ys) room) (value (stored_unrotated n matrix ys))

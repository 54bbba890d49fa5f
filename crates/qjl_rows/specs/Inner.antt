-- Crates that have this one project ask this of their callers or ensure it: the lengths of a projection. No public promise is stated by it. Assumes nothing.
use Rattle.std.specs.Prelude.{ℕ, ◌*◌, ◌≡◌, List, length, Float}

-- The lengths fit: the query has a row's length, and the matrix a row for each of the `room` values of the output.
pub record Rowed (n : ℕ) (matrix query : List Float) (room : ℕ) : Type 0 where
  pub query_long : length query ≡ n
  pub matrix_long : length matrix ≡ room * n

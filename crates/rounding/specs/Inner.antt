-- Private contracts of other crates say this of a loop that finds a dot product. No public promise is stated by it. Assumes nothing.
use Rattle.std.specs.Prelude.{ℕ, ◌+◌, ◌≡◌, List, drop, Float}
use Rattle.rounding.specs.Sums.{running, products, dot}

-- The dot product of the matrix, from entry `from` on, and the query has taken i terms, which come to `sum`: all of it is the running sum, from `sum` on, over the
-- products of what is left of both lists.
abbrev pub SoFar : List Float → List Float → ℕ → ℕ → Float → Type 0
SoFar matrix query from i sum = dot (drop from matrix) query ≡ running sum (products (drop (from + i) matrix) (drop i query))

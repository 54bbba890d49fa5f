-- The search for the first item that offends in a table that is lent row by row: the entry at a row and a column has index row × columns +
-- column, which is below the table's length, and the search goes on from it to the next column. Assumes nothing.
use Prim.Native.Nat.{ℕ, ◌+◌, ◌*◌, ◌<◌}
use mathlib.Core.Path.{◌≡◌, ap, ◌∙◌}
use mathlib.Core.Bool.{Bool}
use mathlib.Core.List.{List}
use native.Mathlib.Nat.{add_assoc}
use native.Mathlib.Omega.{arith}
use lib.Arith.{digits_lt}
use lib.ListN.{drop}
use Rattle.error.specs.Answer.{place}

pub entry-below : (rows columns row column long : ℕ) → rows * columns ≡ long → row < rows → column < columns → row * columns + column < long
entry-below rows columns row column long whole r c = let l = digits_lt r c in omega (arith, l, whole)

pub rows-full : (rows columns row long : ℕ) → rows * columns ≡ long → row ≡ rows → row * columns ≡ long
rows-full rows columns row long whole e = ap (λ (r : ℕ). r * columns) e ∙ whole

module _ {A : Type 0} (bad : A → Bool) (xs : List A) (columns : ℕ) where
  pub column-next : (row column : ℕ) → place bad xs ≡ (row * columns + column + 1) + place bad (drop (row * columns + column + 1) xs) → place bad xs ≡ (row * columns + (column + 1)) + place bad (drop (row * columns + (column + 1)) xs)
  column-next row column e = rw (← add_assoc (row * columns) column 1) e

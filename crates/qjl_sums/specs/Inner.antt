-- Private functions of this crate ask these of their callers and ensure them: the terms of a row's sum, where their products are placed, and how far the sums of four
-- rows have come. No public promise is stated by these. Assumes nothing.
use Rattle.std.specs.Prelude.{ℕ, ◌+◌, ◌*◌, ◌≤◌, ◌<◌, ◌≡◌, List, length, get_or, drop, set, Float}
use Rattle.std.specs.Float.{nan, binary32}
use Rattle.std.specs.Float.Ieee.{add, mul}
use Rattle.rounding.specs.Sums.{dot}
use Rattle.rounding.specs.Inner.{SoFar}
use Rattle.qjl_sums.specs.declared.Four.{Four}

-- This is the projection on row j, whose entries start at j × n. A dot product ends with the shorter list, so what follows the row does not count.
abbrev pub on_row : ℕ → List Float → List Float → ℕ → Float
on_row n matrix query j = dot (drop (j * n) matrix) query

-- The term of column j in the sum of the row that starts at `from`.
abbrev pub row_term : List Float → List Float → ℕ → ℕ → Float
row_term matrix query from j = mul binary32 (get_or matrix (from + j) nan) (get_or query j nan)

-- The terms of i columns from `column` on, of one row at even places and of another at odd ones.
pub record Interleaved (matrix query : List Float) (even odd column i : ℕ) (ys : List Float) : Type 0 where
  pub long : length ys ≡ 32
  pub evens : (k : ℕ) → k < i → get_or ys (2 * k) nan ≡ row_term matrix query even (column + k)
  pub odds : (k : ℕ) → k < i → get_or ys (2 * k + 1) nan ≡ row_term matrix query odd (column + k)

-- The sums with a product each: from the first list those of the second row and the first, and from the other those of the third and the fourth.
pub record Added (old : Four) (ys zs : List Float) (at : ℕ) (new : Four) : Type 0 where
  pub top : new.a ≡ add binary32 old.a (get_or ys (at + 1) nan)
  pub second : new.b ≡ add binary32 old.b (get_or ys at nan)
  pub third : new.c ≡ add binary32 old.c (get_or zs at nan)
  pub fourth : new.d ≡ add binary32 old.d (get_or zs (at + 1) nan)

-- Four rows follow one another from the index `from` on, each as long as the query; i terms of their dot products are taken.
pub record FourSoFar (matrix query : List Float) (from i : ℕ) (sums : Four) : Type 0 where
  pub fits : from + 4 * length query ≤ length matrix
  pub within : i ≤ length query
  pub top : SoFar matrix query from i sums.a
  pub second : SoFar matrix query (from + length query) i sums.b
  pub third : SoFar matrix query (from + length query + length query) i sums.c
  pub fourth : SoFar matrix query (from + length query + length query + length query) i sums.d

-- Four sums stored from an index on.
abbrev pub four_set : List Float → ℕ → Four → List Float
four_set out at sums = set (set (set (set out at sums.a) (at + 1) sums.b) (at + 2) sums.c) (at + 3) sums.d

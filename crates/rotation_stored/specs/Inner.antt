-- Private functions of this crate ask these of their callers and ensure them. No public promise is stated by these. Assumes nothing.
use Rattle.std.specs.Prelude.{ℕ, ◌*◌, ◌%◌, ◌≤◌, ◌<◌, ◌≡◌, Bool, true, false, List, eqb, ltb, length, get_or, Float}
use Rattle.std.specs.Float.{nan}
use Rattle.error.specs.Answer.{place}
use Rattle.error.specs.Checks.{bad_value}
use Rattle.rounding.specs.Inner.{SoFar}
use Rattle.rotation_stored.specs.Stored.{row_of}

-- Each row's sum has taken its terms of the first j columns. The matrix has as many columns, of as many entries, as the input has values, and there are as many sums.
pub record Taken (matrix input : List Float) (j : ℕ) (sums : List Float) : Type 0 where
  pub matrix_long : length matrix ≡ length input * length input
  pub sums_long : length sums ≡ length input
  pub within : j ≤ length input
  pub along : (i : ℕ) → i < length input → SoFar (row_of (length input) matrix i) input 0 j (get_or sums i nan)

-- A dimension and lengths that pass: of the matrix, of the input, and of the output, whose length is `room`.
pub record Shaped (n matrix long room : ℕ) : Type 0 where
  pub above : eqb n 0 ≡ false
  pub even : eqb (n % 2) 1 ≡ false
  pub small : ltb 512 n ≡ false
  pub matrix_long : matrix ≡ n * n
  pub input_long : long ≡ n
  pub output_long : room ≡ n

-- The call writes all values and answers whether it did; it does so only if all of them are finite.
pub record Judged (values old : List Float) (wrote : Bool) (new : List Float) : Type 0 where
  pub clean : wrote ≡ true → ltb (place bad_value values) (length values) ≡ false
  pub copied : wrote ≡ true → new ≡ values
  pub kept : wrote ≡ false → new ≡ old

-- A matrix of two columns, (1, 2) and (3, 4): its rows, both rotations, and each refusal, computed. Assumes nothing.
use Prim.Native.Nat.{ℕ}
use mathlib.Core.Path.{◌≡◌, refl}
use mathlib.Core.Bool.{false}
use mathlib.Core.List.{List, [], ◌∷◌}
use lib.IntN.{pos}
use lib.Ieee.{Float, nan, fin, add, mul}
use Rattle.error.specs.Answer.{value, refused, place}
use Rattle.error.specs.Checks.{bad_value}
use Rattle.lists.specs.Chunks.{chunks}
use Rattle.rounding.specs.Butterfly.{from}
use Rattle.rounding.specs.Sums.{running, products}
use Rattle.rounding.specs.Rows.{projected}
use Rattle.rotation_stored.specs.Stored.{row_of, stored_rotated, stored_unrotated, stored_apply_of, stored_apply_inverse_of}

-- The number as a float, for the odd ones; 2, 4, 10 and 42 are 1, 1, 5 and 21 times a power of two.
abbrev odd : ℕ → Float
odd n = fin false n (pos 0)

abbrev two : Float
two = fin false 1 (pos 1)

abbrev four : Float
four = fin false 1 (pos 2)

abbrev ten : Float
ten = fin false 5 (pos 1)

-- 1, 2, 3, 4, 'lent column-major'
abbrev matrix : List Float
matrix = odd 1 ∷ two ∷ odd 3 ∷ four ∷ []

-- the rows are (1, 3) and (2, 4)
pub row_zero : row_of 2 matrix 0 ≡ odd 1 ∷ odd 3 ∷ []
unfolding row_of from
row_zero = refl

pub row_one : row_of 2 matrix 1 ≡ two ∷ four ∷ []
unfolding row_of from
row_one = refl

-- of (1, 10), along the rows: 1 × 1 + 3 × 10 and 2 × 1 + 4 × 10
pub along-rows : stored_apply_of 2 matrix (odd 1 ∷ ten ∷ []) 2 ≡ value (odd 31 ∷ fin false 21 (pos 1) ∷ [])
unfolding stored_apply_of stored_rotated row_of from running products add mul place bad_value
along-rows = refl

-- along the columns: 1 × 1 + 2 × 10 and 3 × 1 + 4 × 10
pub along-columns : stored_apply_inverse_of 2 matrix (odd 1 ∷ ten ∷ []) 2 ≡ value (odd 21 ∷ odd 43 ∷ [])
unfolding stored_apply_inverse_of stored_unrotated projected chunks running products add mul place bad_value
along-columns = refl

-- ---- the refusals, each where all that comes before it passes

pub no-dimension : stored_apply_of 0 [] [] 0 ≡ refused 2 0
unfolding stored_apply_of
no-dimension = refl

pub odd-dimension : stored_apply_of 3 [] [] 0 ≡ refused 3 3
unfolding stored_apply_of
odd-dimension = refl

-- 514 is the first even dimension above 512; the place is 0
pub large-dimension : stored_apply_of 514 [] [] 0 ≡ refused 26 0
unfolding stored_apply_of
large-dimension = refl

-- 512 itself is taken: what is found is that the matrix is empty
pub largest-dimension : stored_apply_of 512 [] [] 0 ≡ refused 5 0
unfolding stored_apply_of
largest-dimension = refl

pub short-matrix : stored_apply_of 2 (odd 1 ∷ two ∷ odd 3 ∷ []) [] 0 ≡ refused 5 3
unfolding stored_apply_of
short-matrix = refl

-- the lowest index, as the entries are lent: that of row 0 and column 1
pub matrix-not-finite : stored_apply_of 2 (odd 1 ∷ two ∷ nan ∷ nan ∷ []) [] 0 ≡ refused 9 2
unfolding stored_apply_of place bad_value
matrix-not-finite = refl

pub short-input : stored_apply_of 2 matrix (odd 1 ∷ []) 0 ≡ refused 5 1
unfolding stored_apply_of place bad_value
short-input = refl

pub short-output : stored_apply_inverse_of 2 matrix (odd 1 ∷ ten ∷ []) 3 ≡ refused 6 2
unfolding stored_apply_inverse_of place bad_value
short-output = refl

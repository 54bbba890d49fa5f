-- Rows of a matrix that is lent column by column, and their sums side by side: `taken-one` and `taken-four` for the next columns, and `taken-end` when all are
-- through. Assumes nothing.
use Prim.Native.Nat.{ℕ, suc, ◌+◌, ◌*◌, ◌≤◌, ◌<◌}
use mathlib.Core.Path.{◌≡◌, sym, ap, subst, ◌∙◌}
use mathlib.Core.List.{List}
use native.Mathlib.Nat.{add_assoc, zero-add, suc-mul, mul-le-mul_right, le_refl}
use native.Mathlib.Omega.{arith}
use lib.ListN.{length, get_or}
use lib.Seq.{ext_get_or}
use lib.Ieee.{Float, nan, binary32, add, mul}
use Rattle.lists.specs.Inner.{Filled}
use Rattle.rounding.specs.Inner.{SoFar}
use Rattle.rounding.specs.Sums.{dot}
use Rattle.rounding.proofs.Butterflies.{length-tabled, tabled-at}
use Rattle.rounding.proofs.Running.{dot-more, dot-end}
use Rattle.rotation_stored.specs.Stored.{row_of, stored_rotated}
use Rattle.rotation_stored.specs.Inner.{Taken}
use Rattle.rotation_stored.proofs.Accepted.{length-stored}

-- ---- what a row is

pub length-row : (n : ℕ) (matrix : List Float) (i : ℕ) → length (row_of n matrix i) ≡ n
unfolding row_of
length-row n matrix i = length-tabled _ 0 n

pub row-entry : (n : ℕ) (matrix : List Float) (i j : ℕ) → j < n → get_or (row_of n matrix i) j nan ≡ get_or matrix (j * n + i) nan
unfolding row_of
row-entry n matrix i j l = tabled-at (λ k. get_or matrix (k * n + i) nan) 0 n nan j l ∙ ap (λ (k : ℕ). get_or matrix (k * n + i) nan) (zero-add j)

pub stored_entry : (n : ℕ) (matrix xs : List Float) (i : ℕ) → i < n → get_or (stored_rotated n matrix xs) i nan ≡ dot (row_of n matrix i) xs
unfolding stored_rotated
stored_entry n matrix xs i l = tabled-at (λ k. dot (row_of n matrix k) xs) 0 n nan i l ∙ ap (λ (k : ℕ). dot (row_of n matrix k) xs) (zero-add i)

-- ---- the sums, column by column

module _ (matrix input : List Float) where
  -- row i, of as many entries as the input has
  abbrev row : ℕ → List Float
  row i = row_of (length input) matrix i

  -- the sum of row i with its term of column j, whose entries start at `from`
  abbrev pub column_added : ℕ → ℕ → ℕ → Float → Float
  column_added from j i sum = add binary32 sum (mul binary32 (get_or matrix (from + i) nan) (get_or input j nan))

  -- the same for four columns of n entries each, one after the other
  abbrev pub four_added : ℕ → ℕ → ℕ → ℕ → Float → Float
  four_added n from j i sum =
      column_added (from + n + n + n) (j + 3) i (column_added (from + n + n) (j + 2) i (column_added (from + n) (j + 1) i (column_added from j i sum)))

  row_more : (i j from : ℕ) (acc : Float) → from ≡ j * length input → j < length input → SoFar (row i) input 0 j acc → SoFar (row i) input 0 (j + 1) (column_added from j i acc)
  row_more i j from acc e l so_far =
      let here : get_or (row i) (0 + j) nan ≡ get_or matrix (from + i) nan = ap (λ (k : ℕ). get_or (row i) k nan) (zero-add j) ∙ row-entry (length input) matrix i j l ∙ ap (λ (k : ℕ). get_or matrix (k + i) nan) (sym e) in
      subst (λ (v : Float). SoFar (row i) input 0 (j + 1) (add binary32 acc (mul binary32 v (get_or input j nan)))) here
      (dot-more (row i) input 0 j acc (let long = length-row (length input) matrix i in omega (arith, long)) l so_far)

  row-four : (i j n : ℕ) (acc : Float) → n ≡ length input → j + 4 ≤ length input → SoFar (row i) input 0 j acc → SoFar (row i) input 0 (j + 4) (four_added n (j * n) j i acc)
  row-four i j n acc e l so_far =
      let one = row_more i j (j * n) _ (ap (λ (k : ℕ). j * k) e) (omega arith) so_far in
      let two = rw (add_assoc j 1 1) at (row_more i (j + 1) (j * n + n) _ (rw e (omega arith)) (omega arith) one) in
      let three = rw (add_assoc j 2 1) at (row_more i (j + 2) (j * n + n + n) _ (rw e (omega arith)) (omega arith) two) in
      rw (add_assoc j 3 1) at (row_more i (j + 3) (j * n + n + n + n) _ (rw e (omega arith)) (omega arith) three)

  -- the entries of column k lie in the matrix
  pub column-within : {sums : List Float} {j k : ℕ} → Taken matrix input j sums → k < length input → k * length sums + length sums ≤ length matrix
  column-within {sums} {j} {k} t l =
      let h : suc k * length input ≤ length input * length input = mul-le-mul_right (length input) l in
      rw t.sums_long (omega (arith, suc-mul k (length input), h, t.matrix_long))

  -- and those of four columns, from column j on
  pub four-within : {sums : List Float} {j : ℕ} → Taken matrix input j sums → j + 4 ≤ length input → j * length sums + length sums + length sums + length sums + length sums ≤ length matrix
  four-within {sums} {j} t l = let last = column-within {k = j + 3} t (omega arith) in omega (arith, last)

  -- all sums are filled anew, each with the terms of j columns
  module _ (xs ys : List Float) (j : ℕ) (f : ℕ → Float) (m : length matrix ≡ length input * length input) (n : length xs ≡ length input) (w : j ≤ length input) where
    taken : Filled nan f 0 (length xs) xs ys → ((i : ℕ) → i < length input → SoFar (row i) input 0 j (f i)) → Taken matrix input j ys
    taken filled terms =
        record {
          matrix_long = m;
          sums_long = filled.long ∙ n;
          within = w;
          along = λ i l. subst (λ (v : Float). SoFar (row i) input 0 j v) (sym (filled.passed i (omega arith) (omega (arith, n)))) (terms i l);
        }

  pub taken-one : (xs ys : List Float) (j : ℕ) → j < length input → Taken matrix input j xs → Filled nan (λ i. column_added (j * length xs) j i (get_or xs i nan)) 0 (length xs) xs ys → Taken matrix input (j + 1) ys
  taken-one xs ys j l t filled = taken xs ys (j + 1) _ t.matrix_long t.sums_long (omega arith) filled (λ i h. row_more i j _ _ (ap (λ (k : ℕ). j * k) t.sums_long) l (t.along i h))

  pub taken-four : (xs ys : List Float) (j : ℕ) → j + 4 ≤ length input → Taken matrix input j xs → Filled nan (λ i. four_added (length xs) (j * length xs) j i (get_or xs i nan)) 0 (length xs) xs ys → Taken matrix input (j + 4) ys
  taken-four xs ys j l t filled = taken xs ys (j + 4) _ t.matrix_long t.sums_long l filled (λ i h. row-four i j _ _ t.sums_long l (t.along i h))

  pub taken-end : (ys : List Float) → Taken matrix input (length input) ys → ys ≡ stored_rotated (length input) matrix input
  taken-end ys t =
      ext_get_or nan ys (stored_rotated (length input) matrix input) (t.sums_long ∙ sym (length-stored (length input) matrix input))
      (λ i l. let h : i < length input = omega (arith, t.sums_long) in dot-end (row i) input 0 (length input) _ (le_refl _) (t.along i h) ∙ sym (stored_entry (length input) matrix input i h))

-- How far an entry of the stored rotation lies from the exact one: n + 1 roundings of the sum of its row's |matrix entry × query entry|, and n units of 2 ^ -149.
-- Where an entry is not finite nothing is said of it. Assumes nothing.
use Prim.Native.Nat.{ℕ, zero, suc, ◌+◌, ◌*◌, ◌^◌, ◌≤◌}
use mathlib.Core.Path.{sym, subst}
use mathlib.Core.List.{List, map}
use native.Mathlib.Nat.{le_of_eq}
use lib.Dec.{T}
use lib.ListN.{replicate}
use lib.Ieee.{Float, nan, binary32, fits}
use Rattle.float.specs.Units.{unit, mag}
use Rattle.rounding.specs.Butterfly.{from}
use Rattle.rounding.specs.Value.{val}
use Rattle.rounding.specs.Sums.{dot, exact_dot, sum, weighted}
use Rattle.rounding.proofs.Close.{AllFit, AllClose, none, next}
use Rattle.rounding.proofs.Folds.{all-fit_at, all-fit-from}
use Rattle.rounding.proofs.Rows.{close_row}
use Rattle.rotation_stored.specs.Stored.{row_of, stored_rotated}
use Rattle.rotation_stored.specs.Exact.{exact_stored, stored_sizes}
use Rattle.rotation_stored.proofs.Columns.{length-row, row-entry}

row_fits : (n : ℕ) (matrix : List Float) → AllFit matrix → (i : ℕ) → AllFit (row_of n matrix i)
unfolding fits
row_fits n matrix f i =
    all-fit-from (row_of n matrix i) nan (λ j l.
    subst (λ (x : Float). T (fits binary32 x)) (sym (row-entry n matrix i j (rw (sym (length-row n matrix i)) l))) (all-fit_at matrix nan tt f (j * n + i)))

module _ (n : ℕ) (matrix query : List Float) (f : AllFit matrix) (g : AllFit query) (L : n + 1 ≤ 2 ^ 23) where
  -- the rows from one on
  rows-close : (start count : ℕ) → AllClose unit (n + 1) (replicate count (n * unit))
      (map (λ i. sum (weighted query (map mag (row_of n matrix i)))) (from start count))
      (map (λ i. dot (row_of n matrix i) query) (from start count))
      (map (λ i. exact_dot (map val (row_of n matrix i)) (map val query)) (from start count))
  unfolding from
  rows-close start zero = none
  rows-close start (suc count) =
      next (close_row n (row_of n matrix start) query (le_of_eq (length-row n matrix start)) (row_fits n matrix f start) g L) (rows-close (suc start) count)

  -- Each entry, where it is finite, lies within n + 1 roundings and n units of the exact entry.
  pub stored-close : AllClose unit (n + 1) (replicate n (n * unit)) (stored_sizes n matrix query) (stored_rotated n matrix query) (exact_stored n matrix query)
  unfolding stored_sizes stored_rotated exact_stored
  stored-close = rows-close 0 n

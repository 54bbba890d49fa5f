-- No hidden infinity in a projection: a sum that is finite has finite terms only, so that finite projections tell of a finite matrix and a
-- finite query. Assumes nothing.
use Prim.Native.Nat.{ℕ, zero, suc, ◌+◌, ◌*◌, ◌/◌, ◌%◌, ◌<◌}
use mathlib.Core.Path.{◌≡◌, sym, subst}
use mathlib.Core.Bool.{Bool, true, false}
use mathlib.Core.List.{List}
use native.Mathlib.Nat.{mod-lt, div-add-mod', div-lt_iff_lt-mul}
use native.Mathlib.Omega.{arith}
use lib.Dec.{T, ltb}
use lib.ListN.{length, get_or, drop, length-drop}
use lib.Seq.{get_or-drop}
use lib.Ieee.{Float, nan}
use lib.Ieee.Bits.{is_true}
use lib.Ieee.Scale.{finite}
use Rattle.error.specs.Answer.{place}
use Rattle.error.proofs.Places.{each-clear, each_none}
use Rattle.rounding.proofs.Partial.{dot-finite}
use Rattle.error.specs.Checks.{bad_value}
use Rattle.error.proofs.Finite.{finite-passes, passes-finite}
use Rattle.qjl_sums.specs.Inner.{on_row}
use Rattle.qjl_rows.specs.Inner.{Rowed}
use Rattle.rounding.proofs.Rows.{length-projected, projected-row}
use Rattle.rounding.specs.Rows.{projected}

pub told : (b : Bool) → b ≡ true → T b
told true e = tt
told false e = subst T (sym e) tt

module _ (n m : ℕ) (matrix query : List Float) (rowed : Rowed n matrix query m) (clean : ltb (place bad_value (projected n m matrix query)) (length (projected n m matrix query)) ≡ false) where
  row-finite : (j : ℕ) → j < m → T (finite (on_row n matrix query j))
  row-finite j l =
      let within : j < length (projected n m matrix query) = rw (length-projected n m matrix query) l in
      subst (λ (x : Float). T (finite x)) (projected-row n m matrix query j rowed.query_long l) (told _ (passes-finite _ (each-clear bad_value (projected n m matrix query) nan clean j within)))

  -- row j and column i
  cell-finite : (j i : ℕ) → j < m → i < n → j * n + i < length matrix → T (finite (get_or matrix (j * n + i) nan)) × T (finite (get_or query i nan))
  cell-finite j i l c h =
      let below : i < length (drop (j * n) matrix) = rw (length-drop (j * n) matrix) (omega arith) in
      let both = dot-finite _ (drop (j * n) matrix) query (row-finite j l) i below (omega (arith, rowed.query_long)) in
      (rw get_or-drop at both.0, both.1)

  columns-above : (k : ℕ) → k < length matrix → 0 < n
  columns-above k h = above n rowed.matrix_long
    where
      above : (w : ℕ) → length matrix ≡ m * w → 0 < w
      above zero e = absurd (omega (arith, e))
      above (suc w) e = omega arith

  entry-finite : (k : ℕ) → k < length matrix → bad_value (get_or matrix k nan) ≡ false
  entry-finite k h =
      let above = columns-above k h in
      let e = div-add-mod' k n in
      let row : k / n < m = (div-lt_iff_lt-mul above).1 (omega (arith, rowed.matrix_long)) in
      let cell = cell-finite (k / n) (k % n) row (mod-lt k above) (omega (arith, e)) in
      finite-passes _ (is_true _ (rw e at cell.0))

  pub matrix_finite : ltb (place bad_value matrix) (length matrix) ≡ false
  matrix_finite = each_none bad_value matrix nan entry-finite

  pub query-finite : 0 < m → ltb (place bad_value query) (length query) ≡ false
  query-finite l = each_none bad_value query nan (λ i h. finite-passes _ (is_true _ (cell-finite 0 i l (omega (arith, rowed.query_long)) (first-within i h)).1))
    where
      first-within : (i : ℕ) → i < length query → 0 * n + i < length matrix
      first-within i h = whole m l rowed.matrix_long
        where
          whole : (w : ℕ) → 0 < w → length matrix ≡ w * n → 0 * n + i < length matrix
          whole zero g e = absurd (omega arith)
          whole (suc w) g e = omega (arith, e, rowed.query_long)

-- The error of the polar sum, over any rotation whose rounded entries are close to its exact ones: of a pair a product, a sum and
-- a product take k to k + 3, and the running sum adds one for each pair. Assumes nothing.
use Rattle.std.proofs.Common.{ℕ, ◌+◌, ◌*◌, ◌^◌, ◌≤◌, T, List, map, length, get_or, le_refl, arith}
use lib.Ieee.{Float, binary32, fits}
use Rattle.rounding.specs.Signed.{Diff}
use Rattle.float.specs.Constants.{pos_zero}
use Rattle.float.specs.Units.{unit, mag}
use Rattle.rounding.proofs.Close.{Close, AllFit, AllClose}
use Rattle.rounding.specs.Sums.{sum}
use Rattle.rounding.proofs.Calculus.{close-zero, close-weaken, close-add, close-mul, close-mul-left}
use Rattle.rounding.proofs.Folds.{close-total, all-close-at, all-fit_at}
use Rattle.polar.specs.Polar.{value_at, direction_at, cosine, sine, pairs, term, polar_sum_of}
use Rattle.polar.specs.Exact.{exact_term, exact_polar, size_term, polar_size}
use Rattle.rounding.proofs.Butterflies.{length-tabled}
use Rattle.polar.proofs.Tables.{table-close}

-- ---- its absolute error, where rs are those of the rounded entries, of which s units make 2 ^ -149
-- each of the three products of pair i adds a unit of its own
unfoldable pub error_term : ℕ → List ℕ → List Float → List ℕ → List Float → ℕ → ℕ
error_term s rs directions indices radii i =
    mag (value_at radii i) * (mag (cosine directions indices i) * get_or rs (2 * i) 0 + s * unit + (mag (sine directions indices i) * get_or rs (2 * i + 1) 0 + s * unit))
    + s * unit * unit

unfoldable pub polar_error : ℕ → List ℕ → List Float → List ℕ → List Float → ℕ
polar_error s rs directions indices radii = sum (map (λ i. error_term s rs directions indices radii i) (pairs radii))

-- an entry of f32s is an f32, where it is missing too
fit_at : (vs : List Float) → AllFit vs → (i : ℕ) → T (fits binary32 (value_at vs i))
fit_at vs f i = all-fit_at vs pos_zero (close-zero 1 0).fit f i

module _ {s k : ℕ} {rs bs : List ℕ} {rotated : List Float} {xs : List Diff} (directions : List Float) (indices : List ℕ) (radii : List Float) (table : AllFit directions) (read : AllFit radii) (all : AllClose s k rs bs rotated xs) where
  -- one pair
  close-term : k + 2 ≤ 2 ^ 23 → (i : ℕ)
      → Close (s * unit * unit) (k + 3) (error_term s rs directions indices radii i) (size_term bs directions indices radii i) (term rotated directions indices radii i) (exact_term xs directions indices radii i)
  unfolding error_term size_term term exact_term
  close-term K i =
      let zero = close-zero s k in
      let along = close-mul (cosine directions indices i) (fit_at directions table (direction_at indices i)) (omega arith) (all-close-at pos_zero zero all (2 * i)) in
      let across = close-mul (sine directions indices i) (fit_at directions table (direction_at indices i + 1)) (omega arith) (all-close-at pos_zero zero all (2 * i + 1)) in
      close-weaken (omega arith) (le_refl _) (le_refl _) (close-mul-left (value_at radii i) (fit_at radii read i) (omega arith) (close-add (omega arith) along across))

  -- 'added in pair order'
  pub close-polar : k + 3 + length radii ≤ 2 ^ 23
      → Close (s * unit * unit) (k + 3 + length radii) (polar_error s rs directions indices radii) (polar_size bs directions indices radii) (polar_sum_of rotated directions indices radii) (exact_polar xs directions indices radii)
  unfolding polar_error polar_size polar_sum_of exact_polar
  close-polar K =
      let n = length-tabled (λ i. term rotated directions indices radii i) 0 (length radii) in
      close-weaken (omega (arith, n)) (le_refl _) (le_refl _)
      (close-total (omega (arith, n))
      (table-close _ _ _ _ (λ i. close-term (omega arith) i) (pairs radii)))

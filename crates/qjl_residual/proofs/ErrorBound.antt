-- How far the projection and the residual lie from their exact forms: a row of n entries takes n + 1 roundings, the sum over m signs m more,
-- and the product with the scale one more. Assumes nothing.
use Prim.Native.Nat.{ℕ, ◌+◌, ◌*◌, ◌^◌, ◌≤◌, ◌<◌}
use mathlib.Core.Path.{◌≡◌, sym, ◌∙◌}
use mathlib.Core.Bool.{false}
use mathlib.Core.List.{List, map}
use native.Mathlib.Nat.{le_refl}
use native.Mathlib.Omega.{arith}
use lib.Dec.{T}
use lib.IntN.{ℤ, pos}
use lib.ListN.{length, get_or}
use lib.Ieee.{Float, binary32, fits}
use lib.Ieee.Fits.{div-fits}
use Rattle.rounding.specs.Value.{val}
use Rattle.float.specs.Units.{unit, mag}
use Rattle.rounding.proofs.Close.{Close, AllFit}
use Rattle.rounding.specs.Sums.{exact_total, turned_each, sum}
use Rattle.rounding.proofs.Signed.{mul-same-comm}
use Rattle.rounding.proofs.Calculus.{close-weaken, close-same, close-mul-left}
use Rattle.rounding.proofs.Totals.{sum-replicate}
use Rattle.rounding.specs.Rows.{projected, exact_projected, projected_sizes}
use Rattle.bitpack.specs.Signs.{is_minus, bad_sketch_sign}
use Rattle.qjl_residual.specs.Residual.{scale_of, sign_sum_of, residual_of}
use Rattle.qjl_residual.specs.Exact.{exact_residual, residual_size}
use Rattle.rounding.proofs.Rows.{length-projected, close-projected}
use Rattle.qjl_residual.proofs.SignValues.{close-sign_sum}

pub scale-fits : (m : ℕ) (norm : Float) → T (fits binary32 (scale_of m norm))
unfolding scale_of
scale-fits m norm = div-fits binary32 _ _

module _ (n m : ℕ) (matrix query : List Float) (signs : List ℤ) (f : AllFit matrix) (g : AllFit query) (L : n + m + 1 ≤ 2 ^ 23) (long : length signs ≡ m)
    (good : (i : ℕ) → i < length signs → bad_sketch_sign (get_or signs i (pos 0)) ≡ false) where
  -- ---- the sum over the signs
  pub close-projected-sum : Close unit (n + m + 1) (m * (n * unit)) (sum (projected_sizes n m matrix query)) (sign_sum_of signs (projected n m matrix query))
      (exact_total (turned_each (map is_minus signs) (exact_projected n m matrix query)))
  close-projected-sum =
      let count = length-projected n m matrix query in
      close-weaken (omega (arith, count)) (omega (arith, sum-replicate m (n * unit))) (le_refl _)
      (close-sign_sum signs (long ∙ sym count) good (omega (arith, count)) (close-projected n m matrix query f g (omega arith)))

  -- ---- times the scale, which is any float
  pub close-residual : (norm : Float) → Close (unit * unit) (n + m + 2) (mag (scale_of m norm) * (m * (n * unit)) + unit * unit) (residual_size (scale_of m norm) n m matrix query)
      (residual_of m norm (projected n m matrix query) signs) (exact_residual (scale_of m norm) n m matrix query signs)
  unfolding residual_of residual_size exact_residual
  close-residual norm =
      close-weaken (omega arith) (le_refl _) (le_refl _)
      (close-same (mul-same-comm (exact_total (turned_each (map is_minus signs) (exact_projected n m matrix query))) (val (scale_of m norm)))
      (close-mul-left (scale_of m norm) (scale-fits m norm) (omega arith) close-projected-sum))

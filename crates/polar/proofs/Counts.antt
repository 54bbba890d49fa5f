-- The counts of the polar sum where no direction is above 1 in size and the rotation gives each entry an absolute error of at most a factor times 2 ^ -149:
-- its absolute error is then at most 2 ^ -149 times four sums of radii, each times the factor, and the number of pairs. Where the rotation bounds every entry
-- by one size, the size of the sum is that one times document 01's 'sum of r(|c| + |s|)'. Assumes nothing.
use Rattle.std.proofs.Common.{◌≡◌, ℕ, ◌+◌, ◌*◌, ◌^◌, ◌<◌, ◌≤◌, List, length, get_or, ap, ◌∙◌, le_refl, mul-le-mul_right, mul-le-mul, mul-le-mul_left, zero-add, arith}
use lib.Ieee.{Float}
use Rattle.rounding.specs.Signed.{Diff}
use Rattle.float.specs.Units.{unit, mag}
use Rattle.rounding.proofs.Close.{Close, AllFit, AllClose}
use Rattle.rounding.specs.Sums.{absolute_sum}
use Rattle.rounding.proofs.Calculus.{close-weaken}
use Rattle.polar.specs.Polar.{value_at, direction_at, cosine, sine, polar_sum_of}
use Rattle.polar.specs.Exact.{exact_polar, size_term, polar_size, direction_term, direction_sum}
use Rattle.polar.proofs.Tables.{table-times, table-most}
use Rattle.polar.proofs.Errors.{error_term, polar_error, close-polar}

-- ---- the size
-- one size b for both entries of a pair
one_size : (b r c s x y : ℕ) → x ≡ b → y ≡ b → r * (c * x + s * y) ≡ b * (r * (c + s))
one_size b r c s x y p q = ap (λ (n : ℕ). r * (c * n + s * y)) p ∙ ap (λ (n : ℕ). r * (c * b + s * n)) q ∙ omega arith

pub polar_size-even : (b : ℕ) (bs : List ℕ) (directions : List Float) (indices : List ℕ) (radii : List Float) → ((j : ℕ) → j < 2 * length radii → get_or bs j 0 ≡ b)
    → polar_size bs directions indices radii ≡ b * direction_sum directions indices radii
unfolding polar_size direction_sum size_term direction_term
polar_size-even b bs directions indices radii h =
    table-times _ _ b 0 (length radii) (λ i l. one_size b _ _ _ _ _ (h (2 * i) (omega arith)) (h (2 * i + 1) (omega arith)))

-- ---- the absolute error
-- an error of at most f * s for both entries of a pair
one-error : (s u f r c d x y : ℕ) → 0 < f → c ≤ u → d ≤ u → x ≤ f * s → y ≤ f * s → r * (c * x + s * u + (d * y + s * u)) + s * u * u ≤ 4 * (f * (s * u)) * r + s * u * u
one-error s u f r c d x y some p q v w =
    let left = mul-le-mul p v in
    let right = mul-le-mul q w in
    let once = mul-le-mul_right (s * u) some in
    let both : c * x + s * u + (d * y + s * u) ≤ 4 * (f * (s * u)) = omega (arith, left, right, once) in
    omega (arith, mul-le-mul_left r both)

polar_error-most : (s f : ℕ) (rs : List ℕ) (directions : List Float) (indices : List ℕ) (radii : List Float) → 0 < f → ((j : ℕ) → mag (value_at directions j) ≤ unit)
    → ((j : ℕ) → j < 2 * length radii → get_or rs j 0 ≤ f * s)
    → polar_error s rs directions indices radii ≤ 4 * (f * (s * unit)) * absolute_sum radii + length radii * (s * unit * unit)
unfolding polar_error error_term absolute_sum
polar_error-most s f rs directions indices radii some D R =
    table-most (λ i. error_term s rs directions indices radii i) (4 * (f * (s * unit))) (s * unit * unit) 0 radii (λ i l. rw zero-add (pair i l))
  where
    pair : (i : ℕ) → i < length radii → error_term s rs directions indices radii i ≤ 4 * (f * (s * unit)) * mag (value_at radii i) + s * unit * unit
    pair i l =
        one-error s unit f (mag (value_at radii i)) (mag (cosine directions indices i)) (mag (sine directions indices i)) (get_or rs (2 * i) 0) (get_or rs (2 * i + 1) 0) some
        (D (direction_at indices i)) (D (direction_at indices i + 1)) (R (2 * i) (omega arith)) (R (2 * i + 1) (omega arith))

-- over any rotation whose entries have an error of at most f * s, of which s make 2 ^ -149
pub close-polar-most : {s k : ℕ} {rs bs : List ℕ} {rotated : List Float} {xs : List Diff} (f : ℕ) (directions : List Float) (indices : List ℕ) (radii : List Float) → AllFit directions → AllFit radii
    → 0 < f → ((j : ℕ) → mag (value_at directions j) ≤ unit) → ((j : ℕ) → j < 2 * length radii → get_or rs j 0 ≤ f * s) → k + 3 + length radii ≤ 2 ^ 23 → AllClose s k rs bs rotated xs
    → Close (s * unit * unit) (k + 3 + length radii) (4 * (f * (s * unit)) * absolute_sum radii + length radii * (s * unit * unit)) (polar_size bs directions indices radii)
    (polar_sum_of rotated directions indices radii) (exact_polar xs directions indices radii)
close-polar-most {s} {k} {rs} f directions indices radii table read some small R K all =
    close-weaken (le_refl _) (polar_error-most s f rs directions indices radii some small R) (le_refl _) (close-polar directions indices radii table read all K)

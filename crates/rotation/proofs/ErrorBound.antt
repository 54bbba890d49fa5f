-- How far a rotated entry lies from the exact one: so many roundings as there are butterfly steps, and one for the scale, of X times the scale, and one
-- unit of 2 ^ -149 for the scale's product. Where an entry is not finite nothing is said of it. Assumes nothing.
use Prim.Native.Nat.{ℕ, zero, suc, ◌+◌, ◌*◌, ◌^◌, ◌≤◌}
use mathlib.Core.Path.{◌≡◌, refl, sym, ap, ap₂, ◌∙◌, transport}
use mathlib.Core.List.{List, ◌∷◌, map}
use native.Mathlib.Omega.{arith}
use lib.Count.{count_trailing_zeros}
use lib.Dec.{T}
use lib.ListN.{length, replicate, length-map}
use lib.Ieee.{Float, binary32, add, sub, fits}
use lib.Ieee.Fits.{div-fits}
use Rattle.rounding.specs.Signed.{Diff}
use Rattle.rounding.specs.Value.{val}
use Rattle.float.specs.Constants.{one, pos_zero}
use Rattle.float.specs.Units.{unit, mag}
use Rattle.rounding.specs.Sums.{products, sum, turned_each, absolute_sum}
use Rattle.rounding.proofs.Close.{AllFit, AllClose}
use Rattle.rounding.specs.Butterfly.{stages}
use Rattle.rounding.proofs.Folds.{all-close-self, close-signs, close-scaled}
use Rattle.rounding.proofs.Totals.{sum-none}
use Rattle.rounding.proofs.Blocks.{close-transform}
use Rattle.rotation.specs.Rotation.{inverse_root, scaled, hadamard_of, rotated}
use Rattle.rotation.specs.Exact.{negative, exact_rotated}
use Rattle.rotation.proofs.Accepted.{Rotatable, power-steps, power-few}
use Rattle.rounding.proofs.Lists.{length-products}
use Rattle.rotation.proofs.SignValues.{signs-are-ones}

inverse_root-fits : (n : ℕ) → T (fits binary32 (inverse_root n))
unfolding inverse_root
inverse_root-fits n = div-fits binary32 _ _

-- one number so many times, each made anew
map-replicate : (f : ℕ → ℕ) (n x : ℕ) → map f (replicate n x) ≡ replicate n (f x)
map-replicate f zero x = refl
map-replicate f (suc n) x = ap (λ (l : List ℕ). f x ∷ l) (map-replicate f n x)

-- the roundings of a rotated entry: one for each butterfly step, and the scale's
abbrev pub rotation_count : ℕ → ℕ
rotation_count n = count_trailing_zeros 64 n + 1

module _ (n : ℕ) (signs xs : List Float) (room : ℕ) (fit : Rotatable n signs (length xs) room) (signs-fit : AllFit signs) (xs-fit : AllFit xs) where
  steps : ℕ
  steps = count_trailing_zeros 64 n

  factor : Float
  factor = inverse_root n

  -- the values with their signs, rounded and exact
  flips : List Float
  flips = products xs (map one (map negative signs))

  exact_flips : List Diff
  exact_flips = turned_each (map negative signs) (map val xs)

  close-flips : AllClose 1 0 (map (λ (x : Float). 0) xs) (map mag xs) flips exact_flips
  unfolding flips exact_flips
  close-flips = close-signs (map negative signs) (length-map signs negative ∙ fit.signs_long ∙ sym fit.input_long) (all-close-self 0 xs xs-fit)

  flips-long : length flips ≡ 2 ^ steps
  unfolding flips steps
  flips-long = length-products xs (map one (map negative signs)) (length-map (map negative signs) one ∙ length-map signs negative ∙ fit.signs_long ∙ sym fit.input_long) ∙ fit.input_long ∙ power-steps n fit.power

  steps-few : 0 + steps ≤ 2 ^ 23
  unfolding steps
  steps-few = let few = power-few n fit.power in omega arith

  errors-are : map (λ (r : ℕ). mag factor * r + 1 * unit) (replicate (2 ^ steps) (sum (map (λ (x : Float). 0) xs))) ≡ replicate n unit
  unfolding steps
  errors-are =
      map-replicate (λ (r : ℕ). mag factor * r + 1 * unit) (2 ^ steps) (sum (map (λ (x : Float). 0) xs))
      ∙ ap₂ (λ (m z : ℕ). replicate m z) (sym (power-steps n fit.power)) (ap (λ (z : ℕ). mag factor * z + 1 * unit) (sum-none xs) ∙ omega arith)

  sizes-are : map (λ (b : ℕ). mag factor * b) (replicate (2 ^ steps) (sum (map mag xs))) ≡ replicate n (mag factor * absolute_sum xs)
  unfolding steps absolute_sum
  sizes-are =
      map-replicate (λ (b : ℕ). mag factor * b) (2 ^ steps) (sum (map mag xs))
      ∙ ap (λ (m : ℕ). replicate m (mag factor * sum (map mag xs))) (sym (power-steps n fit.power))

  -- Each rotated entry, where it is finite, lies within its count of roundings of the exact entry, with 1/sqrt(n) times X as the absolute sum.
  pub rotated-close : AllClose unit (rotation_count n) (replicate n unit) (replicate n (mag (inverse_root n) * absolute_sum xs)) (rotated n signs xs) (exact_rotated n signs xs)
  unfolding rotated hadamard_of scaled exact_rotated steps factor flips exact_flips
  rotated-close =
      let whole = close-scaled factor (inverse_root-fits n) (omega (arith, steps-few)) (close-transform steps flips-long steps-few close-flips) in
      let rounded = ap (λ (l : List Float). scaled factor (stages (add binary32) (sub binary32) pos_zero steps 1 (products xs l))) (sym (signs-are-ones signs signs-fit fit.signs_good)) in
      let count : 0 + steps + 1 ≡ steps + 1 = omega arith in
      let scale : 1 * unit ≡ unit = omega arith in
      transport (λ i. AllClose (scale i) (count i) (errors-are i) (sizes-are i) (rounded i) (exact_rotated n signs xs)) whole

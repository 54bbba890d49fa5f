-- The fixed scales in terms of the unit, and the two inequalities between what the roundings add up to and the bound. Assumes nothing.
use Prim.Native.Nat.{ℕ, ◌+◌, ◌*◌, ◌^◌, ◌≤◌, ◌<◌}
use mathlib.Core.Path.{◌≡◌, refl, ap, ◌∙◌}
use native.Mathlib.Nat.{mul_assoc, mul-le-mul_right, mul-le-mul_left}
use native.Mathlib.Omega.{arith}
use Rattle.rounding.specs.Signed.{Diff, ◌⊙◌}
use Rattle.float.specs.Units.{unit}
use Rattle.turbo_order.specs.Scores.{per_unit, per_step, per_radius}

per_unit_is : per_unit ≡ 2 ^ 23 * (unit * unit * unit)
unfolding per_unit unit
per_unit_is = refl

pub per-one : per_step ≡ 2 ^ 23 * (8 * (unit * unit * unit))
unfolding per_step unit
per-one = refl

pub per_radius_is : per_radius ≡ 2 ^ 23 * (8 * (unit * unit))
unfolding per_radius unit
per_radius_is = refl

pub scaled-unit : (d : Diff) → per_unit ⊙ d ≡ 2 ^ 23 ⊙ (unit * unit * unit ⊙ d)
scaled-unit d =
    let p = ap (λ (k : ℕ). k * d.plus) per_unit_is ∙ mul_assoc (2 ^ 23) (unit * unit * unit) d.plus in
    let q = ap (λ (k : ℕ). k * d.minus) per_unit_is ∙ mul_assoc (2 ^ 23) (unit * unit * unit) d.minus in
    λ i. record { plus = p i; minus = q i }

-- ---- the counts against the bound; two is unit × unit and three is unit × unit × unit
module _ (steps count factor pairs n size radii two three : ℕ) (few : 2 * (steps + 4) + n ≤ 2 * (count + 16)) (half : 2 * pairs ≡ n) where
  pub alone-within : (steps + 3 + pairs) * size + 2 ^ 24 * (4 * (factor * two) * radii + pairs * three)
      ≤ (count + 0 + 16) * size + (2 ^ 23 * (8 * two) * (factor * radii) + 2 ^ 23 * (8 * three) * (n * 0 + n))
  alone-within =
      let total = mul-le-mul_right size (let most : steps + 3 + pairs ≤ count + 0 + 16 = omega arith in most) in
      let twice = ap (λ (k : ℕ). k * three) half in
      omega (arith, total, twice)

  -- w is the norm's whole number
  pub residual-within : (m w rest : ℕ) → 0 < m → 0 < pairs
      → (count + m + 15 + 1) * (size + rest) + 2 ^ 24 * (4 * (factor * two) * radii + pairs * three + (2 * n * w + 1) * three)
      ≤ (count + m + 16) * (size + rest) + (2 ^ 23 * (8 * two) * (factor * radii) + 2 ^ 23 * (8 * three) * (n * m * w + n))
  residual-within m w rest some pair =
      let total : count + m + 15 + 1 ≡ count + m + 16 = omega arith in
      let same = ap (λ (k : ℕ). k * (size + rest)) total in
      let twice = ap (λ (k : ℕ). k * three) half in
      let rows = mul-le-mul_right three (mul-le-mul_right w (mul-le-mul_left n some)) in
      let one = mul-le-mul_right three pair in
      omega (arith, same, twice, rows, one)

-- A direction that lies within -1..1 is at most a unit in size, and so is one that is missing from the table. Assumes nothing.
use Rattle.std.proofs.Common.{◌≡◌, ℕ, zero, suc, ◌*◌, ◌/◌, ◌<◌, ◌≤◌, true, false, List, [], ◌∷◌, length, get_or, pos, suc-le-suc, zero-le, mul-le-mul_right, arith, ltb-false}
use native.Mathlib.Nat.{div-le_of_le-mul}
use lib.Ieee.{Float, nan, inf, fin, lt, up, down}
use Rattle.float.specs.Units.{unit, mag}
use Rattle.float.proofs.Units.{mag-zero}
use Rattle.polar.specs.Polar.{value_at}

quotient-small : (n d : ℕ) → n ≤ d → n * unit / d ≤ unit
quotient-small n d h = div-le_of_le-mul d (mul-le-mul_right unit h)

-- a float that is neither below -1.0 nor above 1.0
pub within-small : (x : Float) → lt x (fin true 1 (pos 0)) ≡ false → lt (fin false 1 (pos 0)) x ≡ false → mag x ≤ unit
unfolding mag lt
within-small nan low high = zero-le
within-small (inf s) low high = zero-le
within-small (fin false m e) low high = quotient-small (m * up e) (down e) (omega (arith, ltb-false (1 * 1 * down e) (m * up e * 1) high))
within-small (fin true m e) low high = quotient-small (m * up e) (down e) (omega (arith, ltb-false (1 * 1 * down e) (m * up e * 1) low))

-- in a table each of whose entries is at most 1.0 in size, so is what is missing
pub missing-small : (vs : List Float) → ((j : ℕ) → j < length vs → mag (get_or vs j nan) ≤ unit) → (j : ℕ) → mag (value_at vs j) ≤ unit
missing-small [] h j = rw (mag-zero false (pos 0)) zero-le
missing-small (v ∷ vs) h zero = h 0 (suc-le-suc zero-le)
missing-small (v ∷ vs) h (suc j) = missing-small vs (λ i l. h (suc i) (suc-le-suc l)) j

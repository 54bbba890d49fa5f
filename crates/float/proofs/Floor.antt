-- A float as an unsigned integer of 32 bits, by two comparisons: what is not above -1 gives 0, what is not below 2 ^ 32 the largest number,
-- and between the two the cast to 64 bits gives the same number. Assumes nothing.
use Rattle.std.proofs.Common.{◌≡◌, ℕ, suc, ◌+◌, ◌-◌, ◌*◌, ◌/◌, ◌^◌, ◌<◌, ◌≤◌, min, true, false, T, pos, refl, true≢false, zero-lt-suc, div-lt_iff_lt-mul, mul-pos, le-div_iff_mul-le, arith, lt→ltb, ltb-false, ltb-true}
use mathlib.Core.Bool.{false≢true}
use lib.Ieee.{Float, nan, inf, fin, up, down, lt, to_unsigned}
use lib.Ieee.Fits.{down_pos}

-- with d the divisor of a magnitude a / d
wider : (a d : ℕ) → a * 1 < 1 * 2 ^ 32 * d → a * 1 < 1 * 2 ^ 64 * d
wider a d h = omega arith

some : (a d k : ℕ) → 0 < d → 0 < a * 1 + 1 * suc k * d
some a d k h = omega (arith, mul-pos (zero-lt-suc k) h)

none : (a d k : ℕ) → 0 < d → a * 1 + 1 * suc k * d ≤ 0 → ⊥
none a d k h l = omega (arith, some a d k h)

not_below : (a d : ℕ) → 0 < d → 1 * d + a * 1 ≤ 0 → ⊥
not_below a d h l = omega arith

quotient-lt : (a d : ℕ) → 0 < d → a * 1 < 1 * 2 ^ 32 * d → a / d < 2 ^ 32
quotient-lt a d p h = (div-lt_iff_lt-mul p).1 (omega arith)

quotient-ge : (a d : ℕ) → 0 < d → 1 * 2 ^ 32 * d ≤ a * 1 → 2 ^ 32 ≤ a / d
quotient-ge a d p h = (le-div_iff_mul-le p).1 (omega arith)

same-cap : (q : ℕ) → q < 2 ^ 32 → min q (2 ^ 64 - 1) ≡ min q (2 ^ 32 - 1)
same-cap q h = omega arith

capped : (q : ℕ) → 2 ^ 32 ≤ q → 2 ^ 32 - 1 ≡ min q (2 ^ 32 - 1)
capped q h = omega arith

pub below_wider : (x : Float) → lt x (fin false 1 (pos 32)) ≡ true → T (lt x (fin false 1 (pos 64)))
unfolding lt
below_wider nan h = absurd (false≢true h)
below_wider (inf true) h = tt
below_wider (inf false) h = absurd (false≢true h)
below_wider (fin true m e) h = lt→ltb 0 (m * up e * 1 + 1 * 2 ^ 64 * down e) (some (m * up e) (down e) (2 ^ 64 - 1) (down_pos e))
below_wider (fin false m e) h = lt→ltb (m * up e * 1) (1 * 2 ^ 64 * down e) (wider (m * up e) (down e) (ltb-true (m * up e * 1) (1 * 2 ^ 32 * down e) h))

pub floor-between : (x : Float) → lt x (fin false 1 (pos 32)) ≡ true → to_unsigned 64 x ≡ to_unsigned 32 x
unfolding lt to_unsigned
floor-between nan h = refl
floor-between (inf true) h = refl
floor-between (inf false) h = absurd (false≢true h)
floor-between (fin true m e) h = refl
floor-between (fin false m e) h = same-cap (m * up e / down e) (quotient-lt (m * up e) (down e) (down_pos e) (ltb-true (m * up e * 1) (1 * 2 ^ 32 * down e) h))

pub floor-above : (x : Float) → lt (fin true 1 (pos 0)) x ≡ true → lt x (fin false 1 (pos 32)) ≡ false → 2 ^ 32 - 1 ≡ to_unsigned 32 x
unfolding lt to_unsigned
floor-above nan g h = absurd (false≢true g)
floor-above (inf true) g h = absurd (false≢true g)
floor-above (inf false) g h = refl
floor-above (fin true m e) g h = absurd (none (m * up e) (down e) (2 ^ 32 - 1) (down_pos e) (ltb-false 0 (m * up e * 1 + 1 * 2 ^ 32 * down e) h))
floor-above (fin false m e) g h = capped (m * up e / down e) (quotient-ge (m * up e) (down e) (down_pos e) (ltb-false (m * up e * 1) (1 * 2 ^ 32 * down e) h))

pub floor-below : (x : Float) → lt (fin true 1 (pos 0)) x ≡ false → 0 ≡ to_unsigned 32 x
unfolding lt to_unsigned
floor-below nan g = refl
floor-below (inf true) g = refl
floor-below (inf false) g = absurd (true≢false g)
floor-below (fin true m e) g = refl
floor-below (fin false m e) g = absurd (not_below (m * up e) (down e) (down_pos e) (ltb-false 0 (1 * down e + m * up e * 1) g))

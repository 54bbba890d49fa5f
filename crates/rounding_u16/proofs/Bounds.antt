-- A float brought between 0 and 65535 rounds to the same number of 16 bits. Assumes nothing.
use Prim.Native.Nat.{ℕ, ◌+◌, ◌-◌, ◌*◌, ◌/◌, ◌≤◌, ◌<◌, min}
use mathlib.Core.Path.{◌≡◌, refl}
use mathlib.Core.Bool.{true, false, true≢false, false≢true}
use native.Mathlib.Nat.{le-div_iff_mul-le, div-eq_of_lt}
use native.Mathlib.Omega.{arith}
use borrow.Author.Tests.{ltb-true, ltb-false}
use lib.IntN.{pos}
use lib.Ieee.{Float, nan, inf, fin, up, down, lt}
use lib.Ieee.Fits.{down_pos}
use Rattle.float.specs.Constants.{pos_zero}
use Rattle.float.specs.Rounding.{round_unsigned}
use Rattle.rounding_u16.specs.Inner.{Small}

-- 65535.0
abbrev pub most : Float
most = fin false 65535 (pos 0)

none : (a d : ℕ) → 0 < d → a ≤ 0 → 0 ≡ min ((2 * a + d) / (2 * d)) 65535
none a d D h =
    let q : (2 * a + d) / (2 * d) ≡ 0 = div-eq_of_lt (omega arith) in
    omega arith

all : (a d : ℕ) → 0 < d → 65535 * d ≤ a → 65535 ≡ min ((2 * a + d) / (2 * d)) 65535
all a d D h =
    let q : 65535 ≤ (2 * a + d) / (2 * d) = (le-div_iff_mul-le {k = 2 * d} (omega arith)).1 (omega arith) in
    omega arith

-- what is not above zero rounds as zero does
pub below_zero_lem : (x : Float) → lt pos_zero x ≡ false → round_unsigned 16 pos_zero ≡ round_unsigned 16 x
unfolding lt round_unsigned
below_zero_lem nan h = refl
below_zero_lem (inf true) h = refl
below_zero_lem (inf false) h = absurd (true≢false h)
below_zero_lem (fin true m e) h = refl
below_zero_lem (fin false m e) h = none (m * up e) (down e) (down_pos e) (omega (arith, ltb-false (0 * 1 * down e) (m * up e * 1) h))

-- what is above zero and not below 65535 rounds as 65535 does
pub above_most : (x : Float) → lt pos_zero x ≡ true → lt x most ≡ false → round_unsigned 16 most ≡ round_unsigned 16 x
unfolding lt round_unsigned
above_most nan g h = absurd (false≢true g)
above_most (inf true) g h = absurd (false≢true g)
above_most (inf false) g h = refl
above_most (fin true m e) g h = absurd (false≢true g)
above_most (fin false m e) g h = all (m * up e) (down e) (down_pos e) (omega (arith, ltb-false (m * up e * 1) (65535 * 1 * down e) h))

-- what lies between the two is small
pub between-small : (x : Float) → lt pos_zero x ≡ true → lt x most ≡ true → Small x
unfolding lt
between-small nan g h = absurd (false≢true g)
between-small (inf true) g h = absurd (false≢true g)
between-small (inf false) g h = absurd (false≢true h)
between-small (fin true m e) g h = absurd (false≢true g)
between-small (fin false m e) g h = omega (arith, ltb-true (m * up e * 1) (65535 * 1 * down e) h)

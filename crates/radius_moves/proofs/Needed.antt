-- The inputs that show that each part of the bound is needed, and the limit: what is read from them, and how far it lies away, computed. Assumes nothing.
use mathlib.Core.Path.{◌≡◌, refl}
use Prim.Native.Nat.{ℕ, ◌-◌, ◌+◌, ◌*◌, ◌^◌, ◌<◌}
use native.Mathlib.Nat.{not-suc-le-zero, not-le_of_lt}
use mathlib.Core.Bool.{false}
use mathlib.Core.List.{List, [], ◌∷◌, flat_map}
use lib.Dec.{T, lit<, lit≤}
use lib.ListN.{length, get_or}
use lib.Ieee.{Float, nan, inf, binary32, fits, of_bits, add, sub, mul, div, lt, of_int}
use lib.Ieee.Bits.{of_bits-fits}
use Rattle.digits.specs.Digits.{number, digits}
use Rattle.float.specs.Rounding.{clamped, round_unsigned}
use Rattle.float.specs.Units.{unit, mag}
use Rattle.lists.specs.Chunks.{chunks}
use Rattle.rounding.specs.Signed.{Near, ◌⊙◌}
use Rattle.rounding.specs.Value.{val}
use Rattle.radius.specs.Firsts.{read_back}
use Rattle.radius.specs.Linear.{span_of, quantize_radius_of, linear_bytes, radius_of, linear_radius}
use Rattle.radius.specs.Radii.{bad_radius, GoodRadii, least, greatest, range_of}
use Rattle.radius.specs.declared.RadiusCodecProfileV1.TheVariants.{BlockLinearU16}
use Rattle.radius_moves.specs.Moves.{SmallRadii, epsilon_units}
use Rattle.radius_moves.specs.Needed.{float, Pinned, Needed}
use Rattle.radius_moves.proofs.Moves.{each_of}

-- ---- accepted radii, and such below 2 ^ 127, by their patterns
record GoodRadius (x : Float) : Type 0 where
  fit : T (fits binary32 x)
  good : bad_radius x ≡ false

record SmallRadius (x : Float) : Type 0 where
  accepted : GoodRadius x
  below : mag x < 2 ^ 127 * unit

good_of : (bits : ℕ) → bad_radius (float bits) ≡ false → GoodRadius (float bits)
good_of bits good = record { fit = of_bits-fits binary32 bits; good = good }

small_of : (bits : ℕ) → bad_radius (float bits) ≡ false → mag (float bits) < 2 ^ 127 * unit → SmallRadius (float bits)
small_of bits good below = record { accepted = good_of bits good; below = below }

-- lists of two and of three
all_two : (P : Float → Type 0) {x y : Float} → P x → P y → (i : ℕ) → i < 2 → P (get_or (x ∷ y ∷ []) i nan)
all_two P {x} {y} p q = each_of P x (y ∷ []) p (each_of P y [] q (λ i h. absurd (not-suc-le-zero h)))

all_three : (P : Float → Type 0) {x y z : Float} → P x → P y → P z → (i : ℕ) → i < 3 → P (get_or (x ∷ y ∷ z ∷ []) i nan)
all_three P {x} {y} {z} p q r = each_of P x (y ∷ z ∷ []) p (all_two P q r)

good-radii : (rs : List Float) → ((i : ℕ) → i < length rs → GoodRadius (get_or rs i nan)) → GoodRadii rs
good-radii rs all = record { fit = λ i h. (all i h).fit; good = λ i h. (all i h).good }

small-radii : (rs : List Float) → ((i : ℕ) → i < length rs → SmallRadius (get_or rs i nan)) → SmallRadii rs
small-radii rs all = record { good = good-radii rs (λ i h. (all i h).accepted); below = λ i h. (all i h).below }

-- ---- what the bound comes to, and radii on both sides of it
pub bound-pinned : Pinned
unfolding epsilon_units mag unit of_bits val
bound-pinned = record {
  of_zeros = refl;
  from_zero = refl;
  from_one = refl;
  epsilon_same = refl;
  zero_moved = record { number = tt; near = record { above = lit≤ tt; below = lit≤ tt } };
  zero_further = λ m. not-le_of_lt (lit< tt) m.near.above;
  one_moved = record { number = tt; near = record { above = lit≤ tt; below = lit≤ tt } };
  one_further = λ m. not-le_of_lt (lit< tt) m.near.above;
}

-- ---- (0, 2^−24): the second is read as 2^−25 and a little more
abbrev narrow_radii : List Float
narrow_radii = float 0x0000_0000 ∷ float 0x3380_0000 ∷ []

narrow-read : get_or (read_back BlockLinearU16 narrow_radii) 1 nan ≡ float 0x3300_0080
unfolding read_back chunks flat_map number digits of_bits lt least greatest range_of round_unsigned clamped span_of quantize_radius_of linear_bytes radius_of linear_radius add sub mul div of_int
narrow-read = refl

narrow-small : SmallRadii narrow_radii
unfolding lt of_bits mag unit
narrow-small = small-radii narrow_radii (all_two SmallRadius (small_of 0x0000_0000 refl (lit< tt)) (small_of 0x3380_0000 refl (lit< tt)))

narrow-outside : Near (65535 * 2 ^ 22 ⊙ val (float 0x3300_0080)) (65535 * 2 ^ 22 ⊙ val (float 0x3380_0000)) (2 ^ 22 * (mag (range_of narrow_radii).max - mag (range_of narrow_radii).min) + 65535 * mag (range_of narrow_radii).max) → ⊥
unfolding val mag unit of_bits lt least greatest range_of
narrow-outside n = not-le_of_lt (lit< tt) n.below

-- ---- a high range, 65,039 places wide: the third is read one place higher
abbrev high_radii : List Float
high_radii = float 0x4FA8_B56A ∷ float 0x4FA9_B379 ∷ float 0x4FA9_AE9B ∷ []

high_read : get_or (read_back BlockLinearU16 high_radii) 2 nan ≡ float 0x4FA9_AE9C
unfolding read_back chunks flat_map number digits of_bits lt least greatest range_of round_unsigned clamped span_of quantize_radius_of linear_bytes radius_of linear_radius add sub mul div of_int
high_read = refl

high_small : SmallRadii high_radii
unfolding lt of_bits mag unit
high_small = small-radii high_radii (all_three SmallRadius (small_of 0x4FA8_B56A refl (lit< tt)) (small_of 0x4FA9_B379 refl (lit< tt)) (small_of 0x4FA9_AE9B refl (lit< tt)))

high-outside : Near (65535 * 2 ^ 22 ⊙ val (float 0x4FA9_AE9C)) (65535 * 2 ^ 22 ⊙ val (float 0x4FA9_AE9B)) (2 ^ 22 * (mag (range_of high_radii).max - mag (range_of high_radii).min) + 65535 * 2 ^ 22 * epsilon_units) → ⊥
unfolding val mag unit epsilon_units of_bits lt least greatest range_of
high-outside n = not-le_of_lt (lit< tt) n.above

-- ---- half a step of (0, 1) and a little more: the third is read as a whole step
abbrev half_radii : List Float
half_radii = float 0x0000_0000 ∷ float 0x3F80_0000 ∷ float 0x3700_0080 ∷ []

half-read : get_or (read_back BlockLinearU16 half_radii) 2 nan ≡ float 0x3780_0080
unfolding read_back chunks flat_map number digits of_bits lt least greatest range_of round_unsigned clamped span_of quantize_radius_of linear_bytes radius_of linear_radius add sub mul div of_int
half-read = refl

half-small : SmallRadii half_radii
unfolding lt of_bits mag unit
half-small = small-radii half_radii (all_three SmallRadius (small_of 0x0000_0000 refl (lit< tt)) (small_of 0x3F80_0000 refl (lit< tt)) (small_of 0x3700_0080 refl (lit< tt)))

half-outside : Near (140000 * 2 ^ 22 ⊙ val (float 0x3780_0080)) (140000 * 2 ^ 22 ⊙ val (float 0x3700_0080)) (2 ^ 22 * (mag (range_of half_radii).max - mag (range_of half_radii).min) + 140000 * mag (range_of half_radii).max + 140000 * 2 ^ 22 * epsilon_units) → ⊥
unfolding val mag unit epsilon_units of_bits lt least greatest range_of
half-outside n = not-le_of_lt (lit< tt) n.above

-- ---- document 01's 'min 1.5 × 2^104, max the largest f32': the second reads as infinite
abbrev huge_radii : List Float
huge_radii = float 0x73C0_0000 ∷ float 0x7F7F_FFFF ∷ []

huge-read : get_or (read_back BlockLinearU16 huge_radii) 1 nan ≡ inf false
unfolding read_back chunks flat_map number digits of_bits lt least greatest range_of round_unsigned clamped span_of quantize_radius_of linear_bytes radius_of linear_radius add sub mul div of_int
huge-read = refl

huge-good : GoodRadii huge_radii
unfolding lt of_bits
huge-good = good-radii huge_radii (all_two GoodRadius (good_of 0x73C0_0000 refl) (good_of 0x7F7F_FFFF refl))

-- ---- each of the four
pub each_needed : Needed
each_needed = record {
  epsilon_needed = λ within. narrow-outside (rw narrow-read at (within narrow_radii narrow-small 1 (lit< tt)));
  most_needed = λ within. high-outside (rw high_read at (within high_radii high_small 2 (lit< tt)));
  steps_needed = λ within. half-outside (rw half-read at (within half_radii half-small 2 (lit< tt)));
  limit_needed = λ finite-all. rw huge-read at (finite-all huge_radii huge-good 1 (lit< tt));
}

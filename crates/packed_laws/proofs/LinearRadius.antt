-- A linear radius of a range that a record may hold is no NaN and not below zero, whatever its two bytes are: 16 in a linear record means that a radius reads as
-- infinite. Assumes nothing.
use Prim.Native.Nat.{ℕ, ◌+◌, ◌-◌, ◌*◌, ◌≤◌, ◌<◌}
use mathlib.Core.Path.{◌≡◌, refl, sym, subst}
use mathlib.Core.Bool.{Bool, true, false, ◌||◌, cond, true≢false}
use mathlib.Core.List.{List}
use native.Mathlib.Nat.{mul-pos, mul-le-mul_right, le_trans}
use native.Mathlib.Omega.{arith}
use borrow.Author.Tests.{le-ltb, ltb-false}
use lib.IntN.{ℤ, pos}
use lib.Dec.{T, ltb, lit≤}
use lib.Ieee.{Float, nan, inf, fin, binary32, fits, up, down, round, neg, sum, add, sub, mul, div, of_int, lt, is_nan, of_bits}
use lib.Ieee.Back.{round_whole}
use lib.Ieee.Exact.{HasValue}
use lib.Ieee.Fits.{down_pos}
use lib.Ieee.Order.{round_mono}
use Rattle.error.proofs.Chains.{or-false}
use Rattle.digits.specs.Digits.{number}
use Rattle.rounding.proofs.Exact.{mul-sign-finite}
use Rattle.radius.specs.Linear.{radius_of, linear_radius}
use Rattle.float.specs.Constants.{pos_zero}
use Rattle.radius.specs.Radii.{top_float, bad_radius}
use Rattle.radius.specs.declared.Range.{Range}
use Rattle.radius.proofs.Radii.{radius-finite}
use Rattle.packed.specs.Radii.{bad_bounds}
use Rattle.packed_laws.proofs.NotBelow.{NotBelow, Fine, good-not_below, not_below-zero, not_below-number, not_below-bad, round-not_below, round-zero, below-finite}

zero-times : (m u v : ℕ) → m ≡ 0 → m * u * v ≡ 0
zero-times m u v e = rw e (omega arith)

-- what is at most an f32 rounds to a finite number
round-within : (m : ℕ) (e : ℤ) (a c : ℕ) → T (fits binary32 (fin false m e)) → 0 < c → a * down e ≤ m * up e * c → Fine (round binary32 false a c)
unfolding mul
round-within m e a c fit positive h =
    let most = round_mono binary32 a c (m * up e * (1 * 1)) (down e * 1) positive (mul-pos (down_pos e) (omega arith)) (omega (arith, h)) in
    record {
      not_below = round-not_below a c;
      number = below-finite (round binary32 false a c) (round binary32 false (m * up e * (1 * 1)) (down e * 1)) (round-not_below a c) most (mul-sign-finite (fin false m e) false fit tt);
    }

-- ---- max − min

less-within : (x q u v : ℕ) → (x * v - q) * u ≤ x * (u * v)
less-within x q u v = let less : (x * v - q) * u ≤ x * v * u = mul-le-mul_right u (omega arith) in omega (arith, less)

span-fine : (hi lo : Float) → T (fits binary32 hi) → Fine hi → Fine lo → lt hi lo ≡ false → Fine (sub binary32 hi lo)
unfolding sub add neg sum lt
span-fine nan lo fit f g h = absurd f.number
span-fine (inf s) lo fit f g h = absurd f.number
span-fine (fin s m e) nan fit f g h = absurd g.number
span-fine (fin s m e) (inf t) fit f g h = absurd g.number
span-fine (fin false m e) (fin false n d) fit f g h = rw h (round-within m e (m * up e * down d - n * up d * down e) (down e * down d) fit (mul-pos (down_pos e) (down_pos d)) (less-within (m * up e) (n * up d * down e) (down e) (down d)))
span-fine (fin false m e) (fin true n d) fit f g h =
    rw (zero-times n (up d) (down e) (g.not_below refl)) (round-within m e (m * up e * down d + 0) (down e * down d) fit (mul-pos (down_pos e) (down_pos d)) (omega arith))
span-fine (fin true m e) (fin false n d) fit f g h =
    let none : m * up e * down d + n * up d * down e ≡ 0 = let k = ltb-false 0 (m * up e * down d + n * up d * down e) h in omega (arith, k) in
    rw none (round-zero true (down e * down d) (mul-pos (down_pos e) (down_pos d)))
span-fine (fin true m e) (fin true n d) fit f g h =
    rw (zero-times m (up e) (down d) (f.not_below refl), zero-times n (up d) (down e) (g.not_below refl)) (round-zero false (down e * down d) (mul-pos (down_pos e) (down_pos d)))

-- ---- v / 65,535

one-fits : T (fits binary32 (fin false 1 (pos 0)))
unfolding fits
one-fits = tt

share-of : (x : Float) (v : ℕ) → HasValue x false v 1 → v ≤ 65535 → Fine (div binary32 x top_float)
unfolding div of_bits
share-of nan v is h = absurd is
share-of (inf s) v is h = absurd is
share-of (fin true m e) v is h = absurd (true≢false is.0)
share-of (fin false m e) v is h =
    let most : v * down e ≤ 65535 * down e = mul-le-mul_right (down e) h in
    let positive : 0 < 65535 * 1 * down e = mul-pos (omega arith) (down_pos e) in
    round-within 1 (pos 0) (m * up e * 1) (65535 * 1 * down e) one-fits positive (omega (arith, is.1, most))

share-fine : (v : ℕ) → v ≤ 65535 → Fine (div binary32 (of_int binary32 (pos v)) top_float)
unfolding of_int
share-fine v h = share-of (round binary32 false v 1) v (round_whole binary32 false v (le_trans h (lit≤ tt))) h

-- ---- their product, and the sum with min

product-not_below : (x y : Float) → Fine x → Fine y → NotBelow (mul binary32 x y)
unfolding mul
product-not_below nan y p q = absurd p.number
product-not_below (inf s) y p q = absurd p.number
product-not_below (fin s m e) nan p q = absurd q.number
product-not_below (fin s m e) (inf t) p q = absurd q.number
product-not_below (fin false m e) (fin false n d) p q = round-not_below (m * up e * (n * up d)) (down e * down d)
product-not_below (fin true m e) (fin true n d) p q = round-not_below (m * up e * (n * up d)) (down e * down d)
product-not_below (fin false m e) (fin true n d) p q =
    let none : m * up e * (n * up d) ≡ 0 = rw (q.not_below refl) (omega arith) in
    rw none (round-zero true (down e * down d) (mul-pos (down_pos e) (down_pos d))).not_below
product-not_below (fin true m e) (fin false n d) p q =
    let none : m * up e * (n * up d) ≡ 0 = rw (p.not_below refl) (omega arith) in
    rw none (round-zero true (down e * down d) (mul-pos (down_pos e) (down_pos d))).not_below

either-not_below : (t : Bool) (a b c : ℕ) → NotBelow (cond t (round binary32 false a c) (round binary32 false b c))
either-not_below true a b c = round-not_below a c
either-not_below false a b c = round-not_below b c

sum-not_below : (x y : Float) → Fine x → NotBelow y → NotBelow (add binary32 x y)
unfolding add sum
sum-not_below nan y p q = absurd p.number
sum-not_below (inf s) y p q = absurd p.number
sum-not_below (fin s m e) nan p q = q
sum-not_below (fin s m e) (inf t) p q = q
sum-not_below (fin false m e) (fin false n d) p q = round-not_below (m * up e * down d + n * up d * down e) (down e * down d)
sum-not_below (fin false m e) (fin true n d) p q =
    rw (zero-times n (up d) (down e) (q refl), le-ltb (m * up e * down d) 0 (omega arith)) (round-not_below (m * up e * down d - 0) (down e * down d))
sum-not_below (fin true m e) (fin false n d) p q =
    rw (zero-times m (up e) (down d) (p.not_below refl), le-ltb (n * up d * down e) 0 (omega arith)) (either-not_below (ltb 0 (n * up d * down e)) (n * up d * down e - 0) (0 - n * up d * down e) (down e * down d))
sum-not_below (fin true m e) (fin true n d) p q =
    rw (zero-times m (up e) (down d) (p.not_below refl), zero-times n (up d) (down e) (q refl)) (round-zero true (down e * down d) (mul-pos (down_pos e) (down_pos d))).not_below

-- ---- the radius

radius-fine : (r : Float) → bad_radius r ≡ false → Fine r
radius-fine r good = record { not_below = good-not_below r good; number = subst T (sym (radius-finite r good)) tt }

module _ (range : Range) (payload : List ℕ) (fit : T (fits binary32 range.max)) (good : bad_bounds range ≡ false) (small : number 256 payload ≤ 65535) where
  radius-not_below : NotBelow (linear_radius range payload)
  unfolding radius_of linear_radius
  radius-not_below =
      let order = or-false (bad_radius range.min || bad_radius range.max) (lt range.max range.min) good in
      let ends = or-false (bad_radius range.min) (bad_radius range.max) order.0 in
      let least = radius-fine range.min ends.0 in
      let width = span-fine range.max range.min fit (radius-fine range.max ends.1) least order.1 in
      let share = share-fine (number 256 payload) small in
      let part = product-not_below (sub binary32 range.max range.min) (div binary32 (of_int binary32 (pos (number 256 payload))) top_float) width share in
      sum-not_below range.min (mul binary32 (sub binary32 range.max range.min) (div binary32 (of_int binary32 (pos (number 256 payload))) top_float)) least part

  -- a linear radius is no NaN and not below zero
  pub linear_radius-good : (is_nan (linear_radius range payload) ≡ false) × (lt (linear_radius range payload) pos_zero ≡ false)
  linear_radius-good = (not_below-number (linear_radius range payload) radius-not_below, not_below-zero (linear_radius range payload) radius-not_below)

  -- one that is refused reads as infinite
  pub linear_radius-infinite : bad_radius (linear_radius range payload) ≡ true → linear_radius range payload ≡ inf false
  linear_radius-infinite bad = not_below-bad (linear_radius range payload) radius-not_below bad

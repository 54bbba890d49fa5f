-- `square_root` gives the nearest f32: for every finite f32 x above zero, `NearestRoot x (square_root x)` (`square_root-nearest`); and there is only one
-- (`nearest_root-unique`). What it needs of floats is how far apart they stand (`spaced`); the rest compares integer squares. Assumes nothing.
use Rattle.std.proofs.Common.{◌≡◌, ℕ, zero, suc, ◌+◌, ◌-◌, ◌*◌, ◌/◌, ◌^◌, ◌<◌, ◌≤◌, true, false, T, ◌⊎◌, sym, refl, ap, ◌∙◌, subst, inl, inr, le_trans, le_of_eq, le_of_suc-le-suc, lt_of_le_of_lt, le_of_lt, lt_irrefl, mul-le-mul_right, zero-lt-suc, mul_assoc, mul-le-mul, add_comm, lt_of_mul-lt-mul_right, mul-le-mul_left, mul-lt-mul_of_pos_right, mul-pos, lt_of_not-le, zero-mul, not-le_of_lt, arith, lt→ltb, pow_pos, pow-add, shl_lt}
use native.Mathlib.Nat.{le-suc}
use native.Mathlib.Decide.{dec_le}
use lib.Count.{count_leading_zeros, leading_top}
use lib.Ieee.{Float, nan, inf, fin, binary32, fits, of_bits, to_bits, size}
use lib.Ieee.Bits.{of_bits-fits, of_bits-to_bits}
use Rattle.float.specs.Units.{non_negative, unit, mag}
use Rattle.float.specs.Inner.{significand_of, shift_of}
use Rattle.float.proofs.Units.{mag-zero}
use Rattle.float.specs.SquareRoot.{square, NearestRoot, root_bits, nearest_root, dropped, root_pattern, square_root}
use Rattle.float.proofs.Decode.{significand-lt, shift_le, mag-to_bits, to_bits-below, non_negative-of_bits}
use Rattle.float.proofs.IntegerRoot.{Rounded, nearest_root-rounded, root-range}
use Rattle.float.proofs.RootPattern.{power-back, split-shift, root_pattern-is, Normal, normal, pattern_lt, mag-pattern}

-- ---- squares: s against c * p, where n is m * p ^ 2

square-lt : (a b : ℕ) → a < b → square a < square b
square-lt a b h = lt_of_le_of_lt (mul-le-mul_left a (le_of_lt h)) (mul-lt-mul_of_pos_right h (omega arith))

under : (s c p m : ℕ) → 0 < p → s ≤ c * p → square c < 4 * m → square s < 4 * (m * square p)
under s c p m P h l =
    let a : square s ≤ square (c * p) = mul-le-mul h h in
    let b : square c * square p < 4 * m * square p = mul-lt-mul_of_pos_right l (mul-pos P P) in
    omega arith

just-under : (s c p m : ℕ) → 0 < p → s < c * p → square c ≤ 4 * m → square s < 4 * (m * square p)
just-under s c p m P h l =
    let a : square s < square (c * p) = square-lt s (c * p) h in
    let b : square c * square p ≤ 4 * m * square p = mul-le-mul_right (square p) l in
    omega arith

over : (s c p m : ℕ) → 0 < p → c * p ≤ s → 4 * m < square c → 4 * (m * square p) < square s
over s c p m P h l =
    let a : square (c * p) ≤ square s = mul-le-mul h h in
    let b : 4 * m * square p < square c * square p = mul-lt-mul_of_pos_right l (mul-pos P P) in
    omega arith

just-over : (s c p m : ℕ) → 0 < p → c * p < s → 4 * m ≤ square c → 4 * (m * square p) < square s
just-over s c p m P h l =
    let a : square (c * p) < square s = square-lt (c * p) s h in
    let b : 4 * m * square p ≤ square c * square p = mul-le-mul_right (square p) l in
    omega arith

-- ---- the rounded root r of m, and a number v that is a multiple of p wherever it is 2 ^ 23 * p at least

abbrev Spaced : ℕ → ℕ → Type 0
Spaced p v = 2 ^ 23 * p ≤ v → (w : ℕ) × (v ≡ w * p)

abbrev Nearer : ℕ → ℕ → ℕ → Type 0
Nearer n u v = (v < u → square (v + u) < 4 * n) × (u < v → 4 * n < square (v + u))

next_up : (q p v : ℕ) → 2 ^ 23 ≤ q → Spaced p v → q * p < v → suc q * p ≤ v
next_up q p v Q s h =
    let z = s (le_trans (mul-le-mul_right p Q) (le_of_lt h)) in
    let l : q < z.0 = lt_of_mul-lt-mul_right p (subst (λ (x : ℕ). q * p < x) z.1 h) in
    subst (λ (x : ℕ). suc q * p ≤ x) (sym z.1) (mul-le-mul_right p l)

next_down : (q p v : ℕ) → 2 ^ 23 ≤ q → Spaced p v → v < suc q * p → v ≤ q * p
next_down q p v Q s h = go (dec_le (2 ^ 23 * p) v)
  where
    go : Dec (2 ^ 23 * p ≤ v) → v ≤ q * p
    go (yes g) =
        let z = s g in
        let l : z.0 < suc q = lt_of_mul-lt-mul_right p (subst (λ (x : ℕ). x < suc q * p) z.1 h) in
        subst (λ (x : ℕ). x ≤ q * p) (sym z.1) (mul-le-mul_right p (le_of_suc-le-suc l))
    go (no g) = le_trans (le_of_lt (lt_of_not-le g)) (mul-le-mul_right p Q)

kept : (m q p v : ℕ) → 0 < p → 2 ^ 23 ≤ q → Spaced p v → square q ≤ m → m ≤ square q + q → Nearer (m * square p) (q * p) v
kept m q p v P Q s l h = (
  λ g. just-under (v + q * p) (2 * q) p m P (omega arith) (omega arith),
  λ g.
      let k : suc q * p ≤ v = next_up q p v Q s g in
      over (v + q * p) (2 * q + 1) p m P (omega arith) (omega arith),
)

raised : (m q p v : ℕ) → 0 < p → 2 ^ 23 ≤ q → Spaced p v → square q + q < m → m < square (suc q) → Nearer (m * square p) (suc q * p) v
raised m q p v P Q s l h = (
  λ g.
      let k : v ≤ q * p = next_down q p v Q s g in
      under (v + suc q * p) (2 * q + 1) p m P (omega arith) (omega arith),
  λ g. just-over (v + suc q * p) (2 * suc q) p m P (omega arith) (omega arith),
)

nearer : (m q r p v : ℕ) → 0 < p → 2 ^ 23 ≤ q → Spaced p v → Rounded m q r → Nearer (m * square p) (r * p) v
nearer m q r p v P Q s h = go h.rounds
  where
    go : ((r ≡ q) × (m ≤ square q + q)) ⊎ ((r ≡ suc q) × (square q + q < m)) → Nearer (m * square p) (r * p) v
    go (inl w) = rw w.0 (kept m q p v P Q s h.root.below w.1)
    go (inr w) = rw w.0 (raised m q p v P Q s w.1 h.root.above)

-- ---- how far apart floats stand

shift-reaches : (d t s : ℕ) → s < 2 ^ 24 → 2 ^ 23 * 2 ^ d ≤ s * 2 ^ t → d ≤ t
shift-reaches d t s h l =
    let k : 23 + d < 24 + t = power-back (23 + d) (24 + t) (lt_of_le_of_lt (le_trans (le_of_eq (pow-add 2 23 d)) l) (shl_lt 24 t h)) in
    omega arith

-- a float that is not negative, from 2 ^ (23 + d) units on, is a multiple of 2 ^ d units
pub spaced : (y : Float) → T (fits binary32 y) → T (non_negative y) → (d : ℕ) → 2 ^ 23 * 2 ^ d ≤ mag y → (w : ℕ) × (mag y ≡ w * 2 ^ d)
spaced y f n d h =
    let s = significand_of (to_bits binary32 y) in
    let t = shift_of (to_bits binary32 y) in
    let e : mag y ≡ s * 2 ^ t = mag-to_bits y f n in
    (s * 2 ^ (t - d), e ∙ split-shift s t d (shift-reaches d t s (significand-lt (to_bits binary32 y)) (subst (λ (u : ℕ). 2 ^ 23 * 2 ^ d ≤ u) e h)))

-- ---- the root of x, where x in units of 2 ^ -298 is n

rounded-range : (m q r : ℕ) → q < 2 ^ 24 → 2 ^ 23 ≤ q → Rounded m q r → (2 ^ 23 ≤ r) × (r ≤ 2 ^ 24)
rounded-range m q r h l s = go s.rounds
  where
    go : ((r ≡ q) × (m ≤ square q + q)) ⊎ ((r ≡ suc q) × (square q + q < m)) → (2 ^ 23 ≤ r) × (r ≤ 2 ^ 24)
    go (inl w) = subst (λ (z : ℕ). (2 ^ 23 ≤ z) × (z ≤ 2 ^ 24)) (sym w.0) (l, le_of_lt h)
    go (inr w) = subst (λ (z : ℕ). (2 ^ 23 ≤ z) × (z ≤ 2 ^ 24)) (sym w.0) (le_trans l (le-suc q), h)

nearest-of : (x : Float) (n d m : ℕ) → mag x * 2 ^ 149 ≡ n → Normal n d m → NearestRoot x (of_bits binary32 (d * 2 ^ 23 + nearest_root m))
nearest-of x n d m e h =
    let R = nearest_root-rounded m h.high in
    let Q = root-range m (root_bits 24 0 m) h.low h.high R.root in
    let B = rounded-range m (root_bits 24 0 m) (nearest_root m) Q.1 Q.0 R in
    let b = d * 2 ^ 23 + nearest_root m in
    let u : mag (of_bits binary32 b) ≡ nearest_root m * 2 ^ d = mag-pattern d (nearest_root m) h.few B.0 B.1 in
    let near : (y : Float) → T (fits binary32 y) → T (non_negative y) → Nearer (mag x * 2 ^ 149) (mag (of_bits binary32 b)) (mag y) =
    λ y f g.
    subst (λ (k : ℕ). Nearer k (mag (of_bits binary32 b)) (mag y)) (sym (e ∙ h.exact))
    (subst (λ (k : ℕ). Nearer (m * square (2 ^ d)) k (mag y)) (sym u)
    (nearer m (root_bits 24 0 m) (nearest_root m) (2 ^ d) (mag y) (pow_pos d) Q.0 (spaced y f g d) R)) in
    record {
      fit = of_bits-fits binary32 b;
      not_negative = subst T (sym (non_negative-of_bits b)) (lt→ltb b 0x7F80_0000 (pattern_lt d (nearest_root m) h.few B.1));
      above_smaller = λ y f g. (near y f g).0;
      below_larger = λ y f g. (near y f g).1;
    }

-- ---- the laws

-- units of 2 ^ -298 by the pattern's fields
finer-units : (u s t l : ℕ) → u ≡ s * 2 ^ t → u * 2 ^ l ≡ s * 2 ^ (t + l)
finer-units u s t l e = ap (λ (k : ℕ). k * 2 ^ l) e ∙ mul_assoc s (2 ^ t) (2 ^ l) ∙ ap (λ (k : ℕ). s * k) (sym (pow-add 2 t l))

first-positive : (s p : ℕ) → 0 < s * p → 0 < s
first-positive zero p h = absurd (lt_irrefl 0 (subst (λ (k : ℕ). 0 < k) (zero-mul p) h))
first-positive (suc s) p h = zero-lt-suc s

digits_le : (a j : ℕ) → a + suc j ≡ 24 → j < 24
digits_le a j h = omega arith

pub root_pattern-nearest : (x : Float) → T (fits binary32 x) → T (non_negative x) → 0 < mag x → NearestRoot x (of_bits binary32 (root_pattern (mag x * 2 ^ 149)))
root_pattern-nearest x f g h =
    let b = to_bits binary32 x in
    let s = significand_of b in
    let t = shift_of b in
    let e : mag x ≡ s * 2 ^ t = mag-to_bits x f g in
    let n : mag x * 2 ^ 149 ≡ s * 2 ^ (t + 149) = finer-units (mag x) s t 149 e in
    let z = leading_top 24 s (first-positive s (2 ^ t) (subst (λ (k : ℕ). 0 < k) e h)) (significand-lt b) in
    let N = normal s z.0 t z.2 z.3 (digits_le (count_leading_zeros 24 s) z.0 z.1) (shift_le b (to_bits-below x f g)) in
    subst (λ (p : ℕ). NearestRoot x (of_bits binary32 p))
    (sym (ap root_pattern n ∙ root_pattern-is (s * 2 ^ (t + 149)) (dropped (s * 2 ^ (t + 149))) (s * 2 ^ (t + 149 - 2 * dropped (s * 2 ^ (t + 149)))) refl N.left))
    (nearest-of x (s * 2 ^ (t + 149)) (dropped (s * 2 ^ (t + 149))) (s * 2 ^ (t + 149 - 2 * dropped (s * 2 ^ (t + 149)))) n N)

-- above zero, the root is read off the pattern that `root_pattern` makes
pub square_root-positive : (x : Float) → T (non_negative x) → 0 < mag x → square_root x ≡ of_bits binary32 (root_pattern (mag x * 2 ^ 149))
unfolding square_root
square_root-positive nan g h = absurd g
square_root-positive (inf s) g h = absurd g
square_root-positive (fin true m e) g h = absurd g
square_root-positive (fin false zero e) g h = absurd (lt_irrefl 0 (subst (λ (k : ℕ). 0 < k) (mag-zero false e) h))
square_root-positive (fin false (suc m) e) g h = refl

-- the same by the fields of x's pattern
pub square_root-fields : (x : Float) → T (fits binary32 x) → T (non_negative x) → 0 < mag x
    → square_root x ≡ of_bits binary32 (root_pattern (significand_of (to_bits binary32 x) * 2 ^ (shift_of (to_bits binary32 x) + 149)))
square_root-fields x f g h =
    square_root-positive x g h
    ∙ ap (λ (n : ℕ). of_bits binary32 (root_pattern n)) (finer-units (mag x) (significand_of (to_bits binary32 x)) (shift_of (to_bits binary32 x)) 149 (mag-to_bits x f g))

pub square_root-nearest : (x : Float) → T (fits binary32 x) → T (non_negative x) → 0 < mag x → NearestRoot x (square_root x)
square_root-nearest x f g h = rw (square_root-positive x g h) (root_pattern-nearest x f g h)

-- ---- only one

to_bits-mag : (x : Float) → T (non_negative x) → to_bits binary32 x ≡ 0 + (size (mag x) - 24) * 2 ^ 23 + mag x / 2 ^ (size (mag x) - 24)
unfolding to_bits mag unit
to_bits-mag nan g = absurd g
to_bits-mag (inf s) g = absurd g
to_bits-mag (fin true m e) g = absurd g
to_bits-mag (fin false m e) g = refl

-- finite floats that are not negative are told apart by their units
pub mag-apart : (r s : Float) → T (fits binary32 r) → T (non_negative r) → T (fits binary32 s) → T (non_negative s) → mag r ≡ mag s → r ≡ s
mag-apart r s f g f' g' e =
    sym (of_bits-to_bits binary32 r f)
    ∙ ap (of_bits binary32) (to_bits-mag r g ∙ ap (λ (k : ℕ). 0 + (size k - 24) * 2 ^ 23 + k / 2 ^ (size k - 24)) e ∙ sym (to_bits-mag s g'))
    ∙ of_bits-to_bits binary32 s f'

not-apart : (x r s : Float) → NearestRoot x r → NearestRoot x s → mag r < mag s → ⊥
not-apart x r s p q h =
    let a : 4 * (mag x * 2 ^ 149) < square (mag s + mag r) = p.below_larger s q.fit q.not_negative h in
    let b : square (mag r + mag s) < 4 * (mag x * 2 ^ 149) = q.above_smaller r p.fit p.not_negative h in
    not-le_of_lt a (le_of_lt (subst (λ (k : ℕ). square k < 4 * (mag x * 2 ^ 149)) (add_comm (mag r) (mag s)) b))

pub nearest_root-unique : (x r s : Float) → NearestRoot x r → NearestRoot x s → r ≡ s
nearest_root-unique x r s p q = mag-apart r s p.fit p.not_negative q.fit q.not_negative (same_units (mag r) (mag s) (not-apart x r s p q) (not-apart x s r q p))
  where
    same_units : (a b : ℕ) → (a < b → ⊥) → (b < a → ⊥) → a ≡ b
    same_units a b h g = omega arith

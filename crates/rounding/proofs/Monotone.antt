-- Rounding keeps the order of fractions, and sees only their value: `rounded-mono`, `rounded-same`. So what is at most, or at least, a number that rounding keeps
-- is so when it is rounded: `rounded-most`, `rounded-least`. Nothing here is about floats.
-- The toolchain has the first as `grid_mono` of lib.Ieee.Order, which is not public. Assumes nothing.
use mathlib.Core.Path.{◌≡◌, sym, subst}
use mathlib.Core.Logic.{inl, inr}
use Prim.Native.Nat.{ℕ, suc, ◌+◌, ◌*◌, ◌/◌, ◌%◌, ◌^◌, ◌≤◌, ◌<◌, compare}
use native.Mathlib.Nat.{le_trans, le_of_eq, le_antisymm, lt_of_le_of_lt, eq-or-lt_of_le, mul-pos, mul-le-mul_right, le-div_iff_mul-le, div-div-eq-div-mul}
use native.Mathlib.Omega.{arith}
use lib.Pow.{pow-add, pow_pos, pow_mono}
use lib.Ieee.{size}
use lib.Ieee.Digits.{size-lt, size-le}
use lib.Ieee.Fits.{kept-lt, nearest-le}
use lib.Ieee.Nearest.{closest, closest_mono, nearest-ge, div_mono}
use lib.Ieee.Order.{drop, kept}
use Rattle.rounding.proofs.Nearest.{rounded, kept-long}

-- ---- the number that is kept has at most p digits, or is the power of two above them; where digits are dropped it has p at least
kept-most : (p n c : ℕ) → kept p n c ≤ 2 ^ p
kept-most p n c =
    let k = drop p n c in
    let u = c * 2 ^ k in
    le_trans (nearest-le (n / u) (compare (n % u * 2) u)) (subst (λ (x : ℕ). x < 2 ^ p) (div-div-eq-div-mul n c (2 ^ k)) (kept-lt p (n / c)))

kept-least : (q n c : ℕ) → 0 < c → 0 < drop (suc q) n c → 2 ^ q ≤ kept (suc q) n c
kept-least q n c C K =
    let k = drop (suc q) n c in
    let u = c * 2 ^ k in
    let all : 2 ^ q * u ≤ n = omega (arith, kept-long q n c C K) in
    le_trans ((le-div_iff_mul-le (mul-pos C (pow_pos k))).1 all) (nearest-ge (n / u) (compare (n % u * 2) u))

-- ---- the order

-- as many digits are dropped of both
same-dropped : (k a b c d : ℕ) → 0 < b → 0 < d → a * d ≤ c * b → closest a (b * 2 ^ k) * 2 ^ k ≤ closest c (d * 2 ^ k) * 2 ^ k
same-dropped k a b c d B D h =
    mul-le-mul_right (2 ^ k) (closest_mono a (b * 2 ^ k) c (d * 2 ^ k) (mul-pos B (pow_pos k)) (mul-pos D (pow_pos k)) (omega (arith, mul-le-mul_right (2 ^ k) h)))

-- fewer are dropped of the smaller: a power of two lies between
fewer-dropped : (q i j a c : ℕ) → i < j → a ≤ 2 ^ suc q → 2 ^ q ≤ c → a * 2 ^ i ≤ c * 2 ^ j
fewer-dropped q i j a c l h k =
    le_trans (mul-le-mul_right (2 ^ i) h)
    (le_trans (le_of_eq (sym (pow-add 2 (suc q) i))) (le_trans (pow_mono (between q i j l)) (le_trans (le_of_eq (pow-add 2 q j)) (mul-le-mul_right (2 ^ j) k))))
  where
    between : (q i j : ℕ) → i < j → suc q + i ≤ q + j
    between q i j l = omega arith

drop-mono : (p a b c d : ℕ) → 0 < b → 0 < d → a * d ≤ c * b → drop p a b ≤ drop p c d
drop-mono p a b c d B D h =
    let digits : size (a / b) ≤ size (c / d) = size-le (a / b) (size (c / d)) (lt_of_le_of_lt (div_mono a b c d B D h) (size-lt (c / d))) in
    omega arith

pub rounded-mono : (q a b c d : ℕ) → 0 < b → 0 < d → a * d ≤ c * b → rounded (suc q) a b ≤ rounded (suc q) c d
rounded-mono q a b c d B D h =
    let i = drop (suc q) a b in
    let j = drop (suc q) c d in
    elim (eq-or-lt_of_le (drop-mono (suc q) a b c d B D h)) [
      | inl e ↦ subst (λ (x : ℕ). closest a (b * 2 ^ x) * 2 ^ x ≤ rounded (suc q) c d) (sym e) (same-dropped j a b c d B D h)
      | inr l ↦ fewer-dropped q i j (kept (suc q) a b) (kept (suc q) c d) l (kept-most (suc q) a b) (kept-least q c d D (omega arith))
    ]

-- ---- equal fractions round alike
pub rounded-same : (q a b c d : ℕ) → 0 < b → 0 < d → a * d ≡ c * b → rounded (suc q) a b ≡ rounded (suc q) c d
rounded-same q a b c d B D e = le_antisymm (rounded-mono q a b c d B D (le_of_eq e)) (rounded-mono q c d a b D B (le_of_eq (sym e)))

-- ---- a fraction that is at most a number which rounding keeps, or at least one
pub rounded-most : (q n c m : ℕ) → 0 < c → rounded (suc q) m 1 ≡ m → n ≤ m * c → rounded (suc q) n c ≤ m
rounded-most q n c m C kept h = le_trans (rounded-mono q n c m 1 C (omega arith) (omega (arith, h))) (le_of_eq kept)

pub rounded-least : (q n c m : ℕ) → 0 < c → rounded (suc q) m 1 ≡ m → m * c ≤ n → m ≤ rounded (suc q) n c
rounded-least q n c m C kept h = le_trans (le_of_eq (sym kept)) (rounded-mono q m 1 n c (omega arith) C (omega (arith, h)))

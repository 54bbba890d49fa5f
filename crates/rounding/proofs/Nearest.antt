-- One rounding of a fraction n / c at any precision. Twice the error is at most the denominator, or 2 ^ precision times it is at most the number;
-- and a whole number keeps the second bound in any case. Nothing here is about floats. Assumes nothing.
use mathlib.Core.Path.{◌≡◌, sym, ap, subst}
use mathlib.Core.Logic.{◌⊎◌, inl, inr}
use Prim.Native.Nat.{ℕ, suc, ◌+◌, ◌-◌, ◌*◌, ◌/◌, ◌%◌, ◌^◌, ◌≤◌, ◌<◌, compare, Ordering}
use native.Mathlib.Nat.{mul-one, mul-le-mul_left, le_of_mul-le-mul_right, eq-zero-or-pos, le-div_iff_mul-le, mod-lt, le-add_right, mul-le-mul_right, div-add-mod', mul-pos, pow-suc}
use native.Mathlib.Omega.{arith}
use mathlib.Core.Bool.{not}
use lib.Arith.{lt_of_le-ne}
use lib.Dec.{T, is_le, compare_is_eq, eqb, leb→le, nleb→lt, eqb→eq, eqb_refl}
use lib.Pow.{pow-add, pow_pos}
use lib.Ieee.{size, nearest}
use lib.Ieee.Digits.{size_reaches}
use lib.Ieee.Nearest.{closest}
use lib.Ieee.Order.{drop, kept}

-- t * |a - b| ≤ w, of naturals
pub record Apart (t a b w : ℕ) : Type 0 where
  pub above : t * a ≤ t * b + w
  pub below : t * b ≤ t * a + w

-- n / c rounded to a whole number of at most p binary digits and zeros behind them: what `round` makes of a fraction in units
abbrev pub rounded : ℕ → ℕ → ℕ → ℕ
rounded p n c = kept p n c * 2 ^ drop p n c

-- ---- a / b to the nearest whole number

-- what `compare` says
abbrev Compared : Ordering → ℕ → ℕ → Type 0
Compared Ordering.lt a b = a < b
Compared Ordering.eq a b = a ≡ b
Compared Ordering.gt a b = b < a

compared : (a b : ℕ) → Compared (compare a b) a b
compared a b = go (compare a b) (leb→le a b) (nleb→lt a b) (eqb→eq a b) (λ (e : a ≡ b). subst (λ (x : ℕ). T (eqb a x)) e (eqb_refl a))
  where
    go : (o : Ordering) → (T (is_le o) → a ≤ b) → (T (not (is_le o)) → b < a) → (T (compare_is_eq o) → a ≡ b) → (a ≡ b → T (compare_is_eq o)) → Compared o a b
    go Ordering.lt h k e n = lt_of_le-ne (h tt) n
    go Ordering.eq h k e n = e tt
    go Ordering.gt h k e n = k tt

-- a tie may go either way
tie-apart : (q t r c n : ℕ) → t ≤ 1 → q * c + r ≡ n → r * 2 ≡ c → Apart 2 ((q + t) * c) n c
tie-apart q t r c n h e x = omega (arith, mul-le-mul_right c h)

-- a fraction of whole part q and remainder r
whole_apart : (o : Ordering) (q r c n : ℕ) → q * c + r ≡ n → r < c → Compared o (r * 2) c → Apart 2 (nearest q o * c) n c
whole_apart Ordering.lt q r c n e h x = omega arith
whole_apart Ordering.eq q r c n e h x = tie-apart q (q % 2) r c n (omega arith) e x
whole_apart Ordering.gt q r c n e h x = omega arith

closest-apart : (n c : ℕ) → 0 < c → Apart 2 (closest n c * c) n c
closest-apart n c C = whole_apart (compare (n % c * 2) c) (n / c) (n % c) c n (div-add-mod' n c) (mod-lt n C) (compared (n % c * 2) c)

-- ---- the nearest number at a precision of p digits, of which `drop` are dropped

none_dropped : (g n c K : ℕ) → K ≡ 1 → Apart 2 (g * (c * K)) n (c * K) → Apart 2 (g * K * c) n c
none_dropped g n c K e h = rw e (simp mul-one (simp (e, mul-one) at h))

some-dropped : (Q K g n c : ℕ) → Q * K * c ≤ n → Apart 2 (g * (c * K)) n (c * K) → Apart (Q * 2) (g * K * c) n n
some-dropped Q K g n c l h =
    let a : Q * (2 * (g * (c * K))) ≤ Q * (2 * n + c * K) = mul-le-mul_left Q h.above in
    let b : Q * (2 * n) ≤ Q * (2 * (g * (c * K)) + c * K) = mul-le-mul_left Q h.below in
    record { above = omega arith; below = omega arith }

all_in_use : (z q : ℕ) → 0 < z - suc q → q + (z - suc q) < z
all_in_use z q h = omega arith

-- where digits are dropped, the number has all the digits that are kept
pub kept-long : (q n c : ℕ) → 0 < c → 0 < drop (suc q) n c → 2 ^ q * 2 ^ drop (suc q) n c * c ≤ n
kept-long q n c C K =
    let k = drop (suc q) n c in
    let h : 2 ^ (q + k) ≤ n / c = size_reaches (n / c) (q + k) (all_in_use (size (n / c)) q K) in
    (le-div_iff_mul-le C).0 (subst (λ (x : ℕ). x ≤ n / c) (pow-add 2 q k) h)

pub rounded-apart : (q n c : ℕ) → 0 < c → Apart 2 (rounded (suc q) n c * c) n c ⊎ Apart (2 ^ suc q) (rounded (suc q) n c * c) n n
rounded-apart q n c C =
    let k = drop (suc q) n c in
    let h : Apart 2 (kept (suc q) n c * (c * 2 ^ k)) n (c * 2 ^ k) = closest-apart n (c * 2 ^ k) (mul-pos C (pow_pos k)) in
    elim (eq-zero-or-pos k) [
      | inl e ↦ inl (none_dropped (kept (suc q) n c) n c (2 ^ k) (ap (λ (x : ℕ). 2 ^ x) e) h)
      | inr K ↦ inr (subst (λ (t : ℕ). Apart t (rounded (suc q) n c * c) n n) (sym (pow-suc 2 q)) (some-dropped (2 ^ q) (2 ^ k) (kept (suc q) n c) n c (kept-long q n c C K) h))
    ]

-- both bounds in one, at 24 digits
pub rounded-error : (n c : ℕ) → 0 < c → Apart (2 ^ 24) (rounded 24 n c * c) n (n + 2 ^ 23 * c)
rounded-error n c C = elim (rounded-apart 23 n c C) [
  | inl h ↦ record { above = omega (arith, h.above); below = omega (arith, h.below) }
  | inr h ↦ record { above = omega (arith, h.above); below = omega (arith, h.below) }
]

-- ---- a whole number d, as the fraction d * c / c: no error that is not relative
half-apart : (g d c : ℕ) → 0 < c → Apart 2 (g * c) (d * c) c → g ≡ d
half-apart g d c C h =
    let a : 2 * g ≤ 2 * d + 1 = le_of_mul-le-mul_right {m = 2 * g} {n = 2 * d + 1} (omega (arith, h.above)) C in
    let b : 2 * d ≤ 2 * g + 1 = le_of_mul-le-mul_right {m = 2 * d} {n = 2 * g + 1} (omega (arith, h.below)) C in
    omega arith

scaled-apart : (t g d c : ℕ) → 0 < c → Apart t (g * c) (d * c) (d * c) → Apart t g d d
scaled-apart t g d c C h = record {
  above = le_of_mul-le-mul_right {m = t * g} {n = t * d + d} (omega (arith, h.above)) C;
  below = le_of_mul-le-mul_right {m = t * d} {n = t * g + d} (omega (arith, h.below)) C;
}

same-apart : (t g d : ℕ) → g ≡ d → Apart t g d d
same-apart t g d e = rw e (record { above = le-add_right _ _; below = le-add_right _ _ })

pub whole-rounded-apart : (q d c : ℕ) → 0 < c → Apart (2 ^ suc q) (rounded (suc q) (d * c) c) d d
whole-rounded-apart q d c C =
    let g = rounded (suc q) (d * c) c in
    elim (rounded-apart q (d * c) c C) [
      | inl h ↦ same-apart (2 ^ suc q) g d (half-apart g d c C h)
      | inr h ↦ scaled-apart (2 ^ suc q) g d c C h
    ]

-- at 24 digits
pub whole-error : (d : ℕ) → Apart (2 ^ 24) (rounded 24 d 1) d d
whole-error d = subst (λ (n : ℕ). Apart (2 ^ 24) (rounded 24 n 1) d d) (mul-one d) (whole-rounded-apart 23 d 1 (omega arith))

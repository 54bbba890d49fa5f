-- What `root_pattern` is made of. A number q * 2 ^ k with q of j + 1 binary digits drops half of its digits but 24 (`dropped-is`), and with twice as many cut off
-- nothing is lost and 47 or 48 digits are left (`normal`). A pattern d * 2 ^ 23 + q with q from 2 ^ 23 to 2 ^ 24 is that of q * 2 ^ d units (`units-pattern`).
-- Assumes nothing.
use Rattle.std.proofs.Common.{◌≡◌, ℕ, suc, ◌+◌, ◌-◌, ◌*◌, ◌/◌, ◌%◌, ◌^◌, ◌<◌, ◌≤◌, ◌⊎◌, sym, ap, ◌∙◌, subst, ap₂, inl, inr, le_trans, lt_of_lt_of_le, lt_of_le_of_lt, mul-le-mul_right, mul_assoc, le_antisymm, suc-add, eq-or-lt_of_le, lt_of_not-le, not-le_of_lt, mul-div_cancel, two-mul, arith, lit<, lit≤, pow_pos, pow_mono, pow-add, shl_lt}
use native.Mathlib.Nat.{pow-succ'}
use lib.Ieee.{binary32, of_bits, size}
use lib.Ieee.Digits.{size-lt, size-le, back}
use Rattle.float.specs.Units.{mag}
use Rattle.float.specs.Inner.{significand_of, shift_of}
use Rattle.float.specs.SquareRoot.{square, nearest_root, dropped, root_pattern}
use Rattle.float.proofs.Decode.{significand-high, mag-of_bits}

-- ---- how many digits are dropped

pub power-back : (i p : ℕ) → 2 ^ i < 2 ^ p → i < p
power-back i p h = lt_of_not-le (λ (g : p ≤ i). not-le_of_lt h (pow_mono g))

size_is : (a n : ℕ) → 2 ^ a ≤ n → n < 2 ^ suc a → size n ≡ suc a
size_is a n lo hi = le_antisymm (size-le n (suc a) hi) (power-back a (size n) (lt_of_le_of_lt lo (size-lt n)))

shifted-ge : (q j k : ℕ) → 2 ^ j ≤ q → 2 ^ (j + k) ≤ q * 2 ^ k
shifted-ge q j k h = rw (pow-add 2 j k) (mul-le-mul_right (2 ^ k) h)

pub dropped-is : (q j k : ℕ) → 2 ^ j ≤ q → q < 2 ^ suc j → dropped (q * 2 ^ k) ≡ (suc (j + k) + 1) / 2 - 24
unfolding dropped
dropped-is q j k l h =
    ap (λ (z : ℕ). (z + 1) / 2 - 24)
    (size_is (j + k) (q * 2 ^ k) (shifted-ge q j k l) (subst (λ (e : ℕ). q * 2 ^ k < 2 ^ e) (suc-add j k) (shl_lt (suc j) k h)))

-- ---- what is left

doubled : (d : ℕ) → 2 ^ (2 * d) ≡ 2 ^ d * 2 ^ d
doubled d = ap (λ (e : ℕ). 2 ^ e) (two-mul d) ∙ pow-add 2 d d

pub split-shift : (q k c : ℕ) → c ≤ k → q * 2 ^ k ≡ q * 2 ^ (k - c) * 2 ^ c
split-shift q k c h = ap (λ (e : ℕ). q * 2 ^ e) (sym (back k c h)) ∙ ap (λ (x : ℕ). q * x) (pow-add 2 (k - c) c) ∙ sym (mul_assoc q (2 ^ (k - c)) (2 ^ c))

pub cut-is : (q k c : ℕ) → c ≤ k → q * 2 ^ k / 2 ^ c ≡ q * 2 ^ (k - c)
cut-is q k c h = ap (λ (x : ℕ). x / 2 ^ c) (split-shift q k c h) ∙ mul-div_cancel (q * 2 ^ (k - c)) (pow_pos c)

-- with twice the dropped digits cut off, n is exact, and has 47 or 48 digits left
pub record Normal (n d m : ℕ) : Type 0 where
  pub few : d ≤ 200
  pub left : n / 2 ^ (2 * d) ≡ m
  pub exact : n ≡ m * square (2 ^ d)
  pub low : 2 ^ 46 ≤ m
  pub high : m < 2 ^ 48

pub record Shifts (j k d : ℕ) : Type 0 where
  pub few : d ≤ 200
  pub enough : 2 * d ≤ k
  pub low : 46 ≤ j + (k - 2 * d)
  pub high : suc j + (k - 2 * d) ≤ 48

pub shifts : (j t : ℕ) → j < 24 → t ≤ 253 → Shifts j (t + 149) ((suc (j + (t + 149)) + 1) / 2 - 24)
shifts j t J T = record { few = omega arith; enough = omega arith; low = omega arith; high = omega arith }

normal-at : (q j k d : ℕ) → 2 ^ j ≤ q → q < 2 ^ suc j → Shifts j k d → Normal (q * 2 ^ k) d (q * 2 ^ (k - 2 * d))
normal-at q j k d l h s =
    record {
      few = s.few;
      left = cut-is q k (2 * d) s.enough;
      exact = split-shift q k (2 * d) s.enough ∙ ap (λ (x : ℕ). q * 2 ^ (k - 2 * d) * x) (doubled d);
      low = le_trans (pow_mono s.low) (shifted-ge q j (k - 2 * d) l);
      high = lt_of_lt_of_le (shl_lt (suc j) (k - 2 * d) h) (pow_mono s.high);
    }

pub normal : (q j t : ℕ) → 2 ^ j ≤ q → q < 2 ^ suc j → j < 24 → t ≤ 253
    → Normal (q * 2 ^ (t + 149)) (dropped (q * 2 ^ (t + 149))) (q * 2 ^ (t + 149 - 2 * dropped (q * 2 ^ (t + 149))))
normal q j t l h J T = rw (dropped-is q j (t + 149) l h) (normal-at q j (t + 149) ((suc (j + (t + 149)) + 1) / 2 - 24) l h (shifts j t J T))

pub root_pattern-is : (n d m : ℕ) → dropped n ≡ d → n / 2 ^ (2 * d) ≡ m → root_pattern n ≡ d * 2 ^ 23 + nearest_root m
unfolding root_pattern
root_pattern-is n d m e f = ap (λ (k : ℕ). k * 2 ^ 23 + nearest_root (n / 2 ^ (2 * k))) e ∙ ap (λ (k : ℕ). d * 2 ^ 23 + nearest_root k) f

-- as a program makes it, from the number of q's digits
pub root_pattern-made : (q j t d : ℕ) → 2 ^ j ≤ q → q < 2 ^ suc j → j < 24 → t ≤ 253 → d ≡ (suc (j + (t + 149)) + 1) / 2 - 24
    → (q * 2 ^ (t + 149 - 2 * d) < 2 ^ 48) × (root_pattern (q * 2 ^ (t + 149)) ≡ d * 2 ^ 23 + nearest_root (q * 2 ^ (t + 149 - 2 * d)))
root_pattern-made q j t d l h J T e =
    let k = t + 149 in
    let s : Normal (q * 2 ^ k) d (q * 2 ^ (k - 2 * d)) = normal-at q j k d l h (rw e (shifts j t J T)) in
    (s.high, root_pattern-is (q * 2 ^ k) d (q * 2 ^ (k - 2 * d)) (dropped-is q j k l h ∙ sym e) s.left)

-- ---- a pattern made of the two

pub pattern_lt : (d q : ℕ) → d ≤ 200 → q ≤ 2 ^ 24 → d * 2 ^ 23 + q < 0x7F80_0000
pattern_lt d q D h = omega arith

pattern-significand : (d q : ℕ) → 2 ^ 23 ≤ q → q < 2 ^ 24 → significand_of (d * 2 ^ 23 + q) ≡ q
pattern-significand d q l h =
    let r : 2 ^ 23 + (d * 2 ^ 23 + q) % 2 ^ 23 ≡ q = omega arith in
    significand-high (d * 2 ^ 23 + q) (omega arith) ∙ r

pattern-shift : (d q : ℕ) → 2 ^ 23 ≤ q → q < 2 ^ 24 → shift_of (d * 2 ^ 23 + q) ≡ d
unfolding shift_of
pattern-shift d q l h = omega arith

-- 2 ^ 24 carries: one digit of it is dropped
carried : (d : ℕ) → d * 2 ^ 23 + 2 ^ 24 ≡ suc d * 2 ^ 23 + 2 ^ 23
carried d = omega arith

carried-value : (d : ℕ) → 2 ^ 23 * 2 ^ suc d ≡ 2 ^ 24 * 2 ^ d
carried-value d = rw (pow-succ' 2 d) (omega arith)

value : (d q : ℕ) → 2 ^ 23 ≤ q → q < 2 ^ 24 → significand_of (d * 2 ^ 23 + q) * 2 ^ shift_of (d * 2 ^ 23 + q) ≡ q * 2 ^ d
value d q l h = ap₂ (λ (a k : ℕ). a * 2 ^ k) (pattern-significand d q l h) (pattern-shift d q l h)

pub mag-pattern : (d q : ℕ) → d ≤ 200 → 2 ^ 23 ≤ q → q ≤ 2 ^ 24 → mag (of_bits binary32 (d * 2 ^ 23 + q)) ≡ q * 2 ^ d
mag-pattern d q D l h = mag-of_bits (d * 2 ^ 23 + q) (pattern_lt d q D h) ∙ go (eq-or-lt_of_le h)
  where
    go : (q ≡ 2 ^ 24) ⊎ (q < 2 ^ 24) → significand_of (d * 2 ^ 23 + q) * 2 ^ shift_of (d * 2 ^ 23 + q) ≡ q * 2 ^ d
    go (inl e) =
        ap (λ (b : ℕ). significand_of b * 2 ^ shift_of b) (ap (λ (x : ℕ). d * 2 ^ 23 + x) e ∙ carried d)
        ∙ value (suc d) (2 ^ 23) (lit≤ tt) (lit< tt)
        ∙ carried-value d
        ∙ ap (λ (x : ℕ). x * 2 ^ d) (sym e)
    go (inr g) = value d q l g

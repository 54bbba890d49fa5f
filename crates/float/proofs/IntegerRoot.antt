-- The integer root: `root_bits` finds the largest number q whose square is at most n (`root_bits-root`), and `nearest_root` is q or q + 1, by which side of
-- (q + 1/2) ^ 2 n lies on (`nearest_root-rounded`). Of an n from 2 ^ 46 up to 2 ^ 48 q has 24 binary digits (`root-range`). Assumes nothing.
use Rattle.std.proofs.Common.{◌≡◌, ℕ, zero, suc, ◌+◌, ◌-◌, ◌^◌, ◌<◌, ◌≤◌, Bool, true, false, cond, ltb, leb, ◌⊎◌, sym, refl, ap, ◌∙◌, subst, inl, inr, lt_of_lt_of_le, le-add_right, lt_of_le_of_lt, le_of_lt, lt_irrefl, mul-le-mul, lt_of_not-le, not-le_of_lt, add-one, sub-one, arith, le-ltb, lt-ltb, le-leb}
use native.Mathlib.Nat.{two-pow-succ, pow-succ'}
use native.Mathlib.Decide.{dec_lt, dec_le}
use borrow.Author.Tests.{lt-leb}
use Rattle.float.specs.SquareRoot.{square, root_bits, nearest_root}

-- ---- squares

square-mono : {a b : ℕ} → a ≤ b → square a ≤ square b
square-mono h = mul-le-mul h h

square-back : (a b : ℕ) → square a < square b → a < b
square-back a b h = lt_of_not-le (λ (g : b ≤ a). not-le_of_lt h (square-mono g))

-- ---- the root, cut

pub record Root (n r : ℕ) : Type 0 where
  pub below : square r ≤ n
  pub above : n < square (suc r)

more-digits : (r j : ℕ) → r + 2 ^ suc j ≡ r + 2 ^ j + 2 ^ j
more-digits r j = rw (pow-succ' 2 j) (omega arith)

pub root_bits-root : (j r n : ℕ) → square r ≤ n → n < square (r + 2 ^ j) → Root n (root_bits j r n)
unfolding root_bits
root_bits-root zero r n l h = record { below = l; above = subst (λ (k : ℕ). n < square k) (add-one r) h }
root_bits-root (suc j) r n l h = go (dec_le (square (r + 2 ^ j)) n) (λ t. root_bits-root j t n)
  where
    go : Dec (square (r + 2 ^ j) ≤ n) → ((t : ℕ) → square t ≤ n → n < square (t + 2 ^ j) → Root n (root_bits j t n))
        → Root n (root_bits j (cond (leb (square (r + 2 ^ j)) n) (r + 2 ^ j) r) n)
    go (yes g) rest = rw (le-leb (square (r + 2 ^ j)) n g) (rest (r + 2 ^ j) g (subst (λ (k : ℕ). n < square k) (more-digits r j) h))
    go (no g) rest = rw (lt-leb (square (r + 2 ^ j)) n (lt_of_not-le g)) (rest r l (lt_of_not-le g))

-- one digit of it: j is the number of digits still to find

pub root_bits-take : (j r n : ℕ) → 0 < j → square (r + 2 ^ (j - 1)) ≤ n → root_bits j r n ≡ root_bits (j - 1) (r + 2 ^ (j - 1)) n
unfolding root_bits
root_bits-take zero r n J h = absurd (lt_irrefl 0 J)
root_bits-take (suc j) r n J h =
    let g : square (r + 2 ^ j) ≤ n = subst (λ (k : ℕ). square (r + 2 ^ k) ≤ n) (sub-one (suc j)) h in
    ap (λ (t : Bool). root_bits j (cond t (r + 2 ^ j) r) n) (le-leb (square (r + 2 ^ j)) n g) ∙ sym (ap (λ (k : ℕ). root_bits k (r + 2 ^ k) n) (sub-one (suc j)))

pub root_bits-skip : (j r n : ℕ) → 0 < j → n < square (r + 2 ^ (j - 1)) → root_bits j r n ≡ root_bits (j - 1) r n
unfolding root_bits
root_bits-skip zero r n J h = absurd (lt_irrefl 0 J)
root_bits-skip (suc j) r n J h =
    let g : n < square (r + 2 ^ j) = subst (λ (k : ℕ). n < square (r + 2 ^ k)) (sub-one (suc j)) h in
    ap (λ (t : Bool). root_bits j (cond t (r + 2 ^ j) r) n) (lt-leb (square (r + 2 ^ j)) n g) ∙ sym (ap (λ (k : ℕ). root_bits k r n) (sub-one (suc j)))

pub root_bits-none : (r n : ℕ) → root_bits 0 r n ≡ r
unfolding root_bits
root_bits-none r n = refl

pub half-power : (j : ℕ) → 0 < j → 2 ^ j ≡ 2 ^ (j - 1) + 2 ^ (j - 1)
half-power zero h = absurd (lt_irrefl 0 h)
half-power (suc j) h = rw (sub-one (suc j), two-pow-succ j) refl

-- j more digits are below 2 ^ j
pub root_bits-lt : (j r n : ℕ) → root_bits j r n < r + 2 ^ j
unfolding root_bits
root_bits-lt zero r n = omega arith
root_bits-lt (suc j) r n = rw (more-digits r j) (go (leb (square (r + 2 ^ j)) n) (root_bits-lt j (r + 2 ^ j) n) (root_bits-lt j r n))
  where
    go : (b : Bool) → root_bits j (r + 2 ^ j) n < r + 2 ^ j + 2 ^ j → root_bits j r n < r + 2 ^ j → root_bits j (cond b (r + 2 ^ j) r) n < r + 2 ^ j + 2 ^ j
    go true h g = h
    go false h g = lt_of_lt_of_le g (le-add_right (r + 2 ^ j) (2 ^ j))

-- ---- the root, rounded

-- q is n's root, cut, and r is q, or one up where n is above (q + 1/2) ^ 2
pub record Rounded (n q r : ℕ) : Type 0 where
  pub root : Root n q
  pub rounds : ((r ≡ q) × (n ≤ square q + q)) ⊎ ((r ≡ suc q) × (square q + q < n))

rounds-either : (n q s : ℕ) → ((cond (ltb s n) (suc q) q ≡ q) × (n ≤ s)) ⊎ ((cond (ltb s n) (suc q) q ≡ suc q) × (s < n))
rounds-either n q s = go (dec_lt s n)
  where
    go : Dec (s < n) → ((cond (ltb s n) (suc q) q ≡ q) × (n ≤ s)) ⊎ ((cond (ltb s n) (suc q) q ≡ suc q) × (s < n))
    go (yes g) = inr (ap (λ (t : Bool). cond t (suc q) q) (lt-ltb s n g), g)
    go (no g) =
        let l : n ≤ s = omega arith in
        inl (ap (λ (t : Bool). cond t (suc q) q) (le-ltb s n l), l)

pub nearest_root-rounded : (n : ℕ) → n < 2 ^ 48 → Rounded n (root_bits 24 0 n) (nearest_root n)
unfolding nearest_root
nearest_root-rounded n h = record { root = root_bits-root 24 0 n (omega arith) h; rounds = rounds-either n (root_bits 24 0 n) (square (root_bits 24 0 n) + root_bits 24 0 n) }

-- a number of 47 or 48 digits has a root of 24
pub root-range : (n q : ℕ) → 2 ^ 46 ≤ n → n < 2 ^ 48 → Root n q → (2 ^ 23 ≤ q) × (q < 2 ^ 24)
root-range n q l h r =
    let a : 2 ^ 23 < suc q = square-back (2 ^ 23) (suc q) (lt_of_le_of_lt l r.above) in
    let b : q < 2 ^ 24 = square-back q (2 ^ 24) (lt_of_le_of_lt r.below h) in
    (omega arith, b)

-- the same, one way at a time, for a program that has found q
pub nearest_root-raised : (n q : ℕ) → q ≡ root_bits 24 0 n → square q + q < n → q + 1 ≡ nearest_root n
unfolding nearest_root
nearest_root-raised n q e h =
    add-one q
    ∙ sym (ap (λ (t : Bool). cond t (suc q) q) (lt-ltb (square q + q) n h))
    ∙ ap (λ (k : ℕ). cond (ltb (square k + k) n) (suc k) k) e

pub nearest_root-kept : (n q : ℕ) → q ≡ root_bits 24 0 n → n ≤ square q + q → q ≡ nearest_root n
unfolding nearest_root
nearest_root-kept n q e h = sym (ap (λ (t : Bool). cond t (suc q) q) (le-ltb (square q + q) n h)) ∙ ap (λ (k : ℕ). cond (ltb (square k + k) n) (suc k) k) e

either-le : (t : Bool) (q : ℕ) → q < 2 ^ 24 → cond t (suc q) q ≤ 2 ^ 24
either-le true q h = h
either-le false q h = le_of_lt h

pub nearest_root-le : (n : ℕ) → nearest_root n ≤ 2 ^ 24
unfolding nearest_root
nearest_root-le n = either-le (ltb (square (root_bits 24 0 n) + root_bits 24 0 n) n) (root_bits 24 0 n) (root_bits-lt 24 0 n)

-- 'A dimension is a power of two exactly when one bit of it is set' (document 01): the number with one set bit is two to its trailing zeros.
-- Assumes nothing.
use Prim.Native.Nat.{ℕ, zero, suc, ◌/◌, ◌%◌, ◌^◌, ◌<◌}
use mathlib.Core.Path.{◌≡◌, refl, sym, ap, ◌∙◌}
use native.Mathlib.Nat.{pow-zero, pow-suc}
use native.Mathlib.Omega.{arith}
use lib.Count.{ones, ones_step, count_trailing_zeros, under, ones_in}

-- half of a number of k + 1 digits has k
half_lt : (k n : ℕ) → n < 2 ^ suc k → n / 2 < 2 ^ k
half_lt k n h = let p = pow-suc 2 k in omega (arith, p)

no_ones : (k n : ℕ) → n < 2 ^ k → ones n ≡ 0 → n ≡ 0
no_ones zero n h e = let p = pow-zero 2 in omega (arith, p)
no_ones (suc k) n h e =
    let step = ones_step n in
    let rest = no_ones k (n / 2) (half_lt k n h) (omega (arith, step)) in
    omega (arith, step, rest)

zero-has-none : ¬ (ones 0 ≡ 1)
unfolding ones ones_in
zero-has-none e = omega (arith, e)

trailing-step : (k n d : ℕ) → n % 2 ≡ d → count_trailing_zeros (suc k) n ≡ under d (count_trailing_zeros k (n / 2))
unfolding count_trailing_zeros
trailing-step k n d e = ap (λ (m : ℕ). under m (count_trailing_zeros k (n / 2))) e

pub one_bit : (k n : ℕ) → n < 2 ^ k → ones n ≡ 1 → n ≡ 2 ^ count_trailing_zeros k n
one_bit zero n h e = let p = pow-zero 2 in let z : n ≡ 0 = omega (arith, p) in absurd (zero-has-none (ap ones (sym z) ∙ e))
one_bit (suc k) n h e = split (n % 2) refl (λ o. one_bit k (n / 2) (half_lt k n h) o)
  where
    split : (d : ℕ) → n % 2 ≡ d → (ones (n / 2) ≡ 1 → n / 2 ≡ 2 ^ count_trailing_zeros k (n / 2)) → n ≡ 2 ^ count_trailing_zeros (suc k) n
    split zero even rest =
        let step = ones_step n in
        let half = rest (omega (arith, step, even)) in
        let p = pow-suc 2 (count_trailing_zeros k (n / 2)) in
        rw (trailing-step k n 0 even) (omega (arith, half, p, even))
    split (suc d) odd rest =
        let step = ones_step n in
        let half = no_ones k (n / 2) (half_lt k n h) (omega (arith, step, odd)) in
        rw (trailing-step k n (suc d) odd, pow-zero) (omega (arith, half, step, odd))

-- and the other way round: a power of two has one set bit
pub power_bit : (k : ℕ) → ones (2 ^ k) ≡ 1
unfolding ones ones_in
power_bit zero = refl
power_bit (suc k) =
    let p = pow-suc 2 k in
    let step = ones_step (2 ^ suc k) in
    let half : 2 ^ suc k / 2 ≡ 2 ^ k = omega (arith, p) in
    let even : 2 ^ suc k % 2 ≡ 0 = omega (arith, p) in
    let rest = ap ones half ∙ power_bit k in
    omega (arith, step, even, rest)

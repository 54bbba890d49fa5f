-- A power of two and the lowest bits of a number, as code shifts and masks them. Assumes nothing.
use Prim.Native.Nat.{ℕ, ◌-◌, ◌*◌, ◌%◌, ◌^◌, ◌≤◌, ◌<◌}
use mathlib.Core.Path.{◌≡◌, ap, ◌∙◌}
use native.Mathlib.Nat.{one-mul, mod-eq_of_lt, mod-lt, lt_of_lt_of_le}
use native.Mathlib.Omega.{arith}
use lib.Bits.{bit_and, and_mask}
use lib.Pow.{pow-lt, pow_pos, pow_mono}

-- 2 ^ bits, as the code shifts it in `width` bits
pub power-shifted : (bits width : ℕ) → bits < width → 1 * 2 ^ bits % 2 ^ width ≡ 2 ^ bits
power-shifted bits width h = ap (λ (n : ℕ). n % 2 ^ width) (one-mul (2 ^ bits)) ∙ mod-eq_of_lt (pow-lt h)

-- the lowest `bits` bits, as the code masks them
pub masked : (n bits : ℕ) → bits ≤ 16 → bit_and n (1 * 2 ^ bits % 2 ^ 64 - 1) ≡ n % 2 ^ bits
masked n bits h = ap (λ (m : ℕ). bit_and n (m - 1)) (power-shifted bits 64 (omega (arith, h))) ∙ and_mask n bits

pub masked-fits : (n bits : ℕ) → bits ≤ 16 → bit_and n (1 * 2 ^ bits % 2 ^ 64 - 1) < 2 ^ 16
masked-fits n bits h = rw (masked n bits h) (lt_of_lt_of_le (mod-lt n (pow_pos bits)) (pow_mono h))

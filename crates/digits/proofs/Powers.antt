-- Powers of two as powers of a base: digits of b bits each, four of them and eight. Assumes nothing.
use Prim.Native.Nat.{ℕ, zero, suc, ◌+◌, ◌*◌, ◌^◌}
use mathlib.Core.Path.{◌≡◌, refl, sym, ap, ◌∙◌}
use native.Mathlib.Nat.{mul-zero, mul-suc, mul_comm, pow-zero, pow-suc}
use native.Mathlib.Omega.{arith}
use lib.Pow.{pow-add}

pub power-power : (b q : ℕ) → 2 ^ (b * q) ≡ (2 ^ b) ^ q
power-power b zero = simp (mul-zero, pow-zero)
power-power b (suc q) = rw (mul-suc, pow-add, power-power b q, pow-suc) refl

pub power-four : (bits : ℕ) → 2 ^ (4 * bits) ≡ (2 ^ bits) ^ 4
power-four bits = ap (λ (m : ℕ). 2 ^ m) (mul_comm 4 bits) ∙ power-power bits 4

-- eight indices are as many bytes as an index has bits
pub eight-bytes : (bits : ℕ) → (2 ^ bits) ^ 4 * (2 ^ bits) ^ 4 ≡ 256 ^ bits
eight-bytes bits =
    let double : 4 * bits + 4 * bits ≡ 8 * bits = omega arith in
    rw (← power-four bits) (sym (pow-add 2 (4 * bits) (4 * bits)) ∙ ap (λ (m : ℕ). 2 ^ m) double ∙ power-power 8 bits)

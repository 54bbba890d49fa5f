-- Numbers of bits and of bytes: when a product of a count and a width fits a usize, and a division by 8 that is rounded up.
-- Assumes nothing.
use Prim.Native.Nat.{ℕ, ◌-◌, ◌*◌, ◌/◌, ◌^◌, ◌≤◌, ◌<◌}
use mathlib.Core.Path.{◌≡◌}
use native.Mathlib.Nat.{le-div_iff_mul-le, div-lt_iff_lt-mul}
use native.Mathlib.Omega.{arith}
use Rattle.std.specs.Int.{div_ceil}
use Rattle.bitpack.specs.Padding.{bytes_for}

-- the largest usize, over the width, tells whether the product exceeds it
pub product-fits : (count bits : ℕ) → 1 ≤ bits → count ≤ (2 ^ 64 - 1) / bits → count * bits ≤ 2 ^ 64 - 1
product-fits count bits h k = (le-div_iff_mul-le h).0 k

pub product-exceeds : (count bits : ℕ) → 1 ≤ bits → (2 ^ 64 - 1) / bits < count → 2 ^ 64 - 1 < count * bits
product-exceeds count bits h k = (div-lt_iff_lt-mul h).0 k

-- std's rounding up, which makes no sum that could pass the largest usize
pub div_ceil-bytes_for : (n : ℕ) → div_ceil n 8 ≡ bytes_for n
div_ceil-bytes_for n = omega arith

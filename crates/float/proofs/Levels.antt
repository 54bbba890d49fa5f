-- How many levels a code of at most 16 bits has: a power of two that an f32 counts exactly and a shifted u32 holds.
-- Assumes nothing.
use Rattle.std.proofs.Common.{◌≡◌, ℕ, ◌*◌, ◌%◌, ◌^◌, ◌≤◌, T, pos, le_trans, mod-eq_of_lt, one-mul, arith, lit≤, le→leb, pow_mono}
use lib.Ieee.{binary32, in_float}

pub levels-most : (bits : ℕ) → bits ≤ 16 → 2 ^ bits ≤ 65536
levels-most bits h = pow_mono h

-- 1 shifted by the bits loses none
pub levels-shifted : (bits : ℕ) → bits ≤ 16 → 1 * 2 ^ bits % 4294967296 ≡ 2 ^ bits
levels-shifted bits h = rw one-mul (mod-eq_of_lt (omega (arith, levels-most bits h)))

pub levels-in_float : (levels : ℕ) → levels ≤ 65536 → T (in_float binary32 (pos levels))
unfolding in_float
levels-in_float levels h = le→leb levels (2 ^ 24) (le_trans h (lit≤ tt))

-- `float::from_bits` meets its contract: without its sign's bit a NaN's pattern is a number above the infinity's (`nan_bits_above`). Assumes nothing.
use Rattle.std.proofs.Common.{◌≡◌, ℕ, ◌%◌, ◌<◌, ◌≤◌, Bool, not, T, sym, ◌∙◌, subst, le-ltb, lt-ltb}
use lib.Ieee.{nan, binary32, of_bits, nan_bits, div}
use lib.Ieee.Bits.{nan_bits_above, nan_bits_is}
use Rattle.float.proofs.Nan.{nan-only}
use Rattle.float.proofs.from_bits.Goals as goal

no-nan-pattern : (n : ℕ) → n % 0x8000_0000 ≤ 0x7F80_0000 → T (not (nan_bits binary32 n))
no-nan-pattern n h = subst (λ (b : Bool). T (not b)) (sym (nan_bits_above binary32 n ∙ le-ltb 0x7F80_0000 (n % 0x8000_0000) h)) tt

nan_pattern : (n : ℕ) → 0x7F80_0000 < n % 0x8000_0000 → nan ≡ of_bits binary32 n
nan_pattern n h = sym (nan-only (of_bits binary32 n) (sym (nan_bits_is binary32 n) ∙ nan_bits_above binary32 n ∙ lt-ltb 0x7F80_0000 (n % 0x8000_0000) h))

pub float_from_bits-result : goal.float_from_bits-result
float_from_bits-result c = no-nan-pattern c.args.bits c.if-bits-gt2139095040.false

pub returns-then-bits-gt2139095040 : goal.returns-then-bits-gt2139095040
unfolding div of_bits
returns-then-bits-gt2139095040 c = nan_pattern c.args.bits c.if-bits-gt2139095040.true

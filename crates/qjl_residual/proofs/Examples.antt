-- The scale, a norm as the whole number of the bound, and a sum over signs, computed. Assumes nothing.
use Prim.Native.Nat.{◌-◌, ◌^◌}
use mathlib.Core.Path.{◌≡◌, refl}
use mathlib.Core.Bool.{true, false}
use mathlib.Core.List.{[], ◌∷◌}
use lib.IntN.{pos, negsuc}
use lib.Ieee.{fin, binary32, add, mul, div, of_int, of_bits, to_bits}
use Rattle.float.specs.SquareRoot.{square_root}
use Rattle.float.specs.Constants.{pos_zero, one, two, pi}
use Rattle.float.specs.Units.{unit, mag}
use Rattle.rounding.specs.Sums.{running, products}
use Rattle.qjl_residual.specs.Residual.{root, scale_of, sign_sum_of}
use Rattle.qjl_residual.specs.Exact.{whole_norm}

-- K for 1 and for 4 projections
pub scale_of-one : to_bits binary32 (scale_of 1 (one false)) ≡ 0x3FA0_6C99
unfolding scale_of root pi square_root div mul of_int of_bits to_bits
scale_of-one = refl

pub scale_of-four : to_bits binary32 (scale_of 4 (one false)) ≡ 0x3EA0_6C99
unfolding scale_of root pi square_root div mul of_int of_bits to_bits
scale_of-four = refl

-- with the norm 2.0
pub scale_of-two : to_bits binary32 (scale_of 4 two) ≡ 0x3F20_6C99
unfolding scale_of root pi square_root div mul of_int of_bits to_bits
scale_of-two = refl

-- with the norm 5.0 and 7 projections: had the quotient come first, the last digit would be C
pub scale-in-order : to_bits binary32 (scale_of 7 (fin false 5 (pos 0))) ≡ 0x3F65_2D6D
unfolding scale_of root pi square_root div mul of_int of_bits to_bits
scale-in-order = refl

-- 'the norm rounded up, and at least 1': both zeros, the smallest f32 above zero, 0.5, 1.0, the next f32, 1.5, 2.0 and the largest f32
pub whole_of-zero : whole_norm pos_zero ≡ 1
unfolding whole_norm mag unit
whole_of-zero = refl

pub whole_of-minus-zero : whole_norm (fin true 0 (pos 0)) ≡ 1
unfolding whole_norm mag unit
whole_of-minus-zero = refl

pub whole_of-smallest : whole_norm (of_bits binary32 1) ≡ 1
unfolding whole_norm mag unit of_bits
whole_of-smallest = refl

pub whole_of-half : whole_norm (fin false 1 (negsuc 0)) ≡ 1
unfolding whole_norm mag unit
whole_of-half = refl

pub whole_of-one : whole_norm (one false) ≡ 1
unfolding whole_norm mag unit
whole_of-one = refl

pub whole-after-one : whole_norm (of_bits binary32 0x3F80_0001) ≡ 2
unfolding whole_norm mag unit of_bits
whole-after-one = refl

pub whole_of-three-halves : whole_norm (fin false 3 (negsuc 0)) ≡ 2
unfolding whole_norm mag unit
whole_of-three-halves = refl

pub whole_of-two : whole_norm two ≡ 2
unfolding whole_norm mag unit
whole_of-two = refl

pub whole_of-largest : whole_norm (of_bits binary32 0x7F7F_FFFF) ≡ 2 ^ 128 - 2 ^ 104
unfolding whole_norm mag unit of_bits
whole_of-largest = refl

-- signs (+, −) and values (3, 5.5): the sum is -2.5
pub small-sign_sum : sign_sum_of (pos 1 ∷ negsuc 0 ∷ []) (fin false 3 (pos 0) ∷ fin false 11 (negsuc 0) ∷ []) ≡ fin true 5 (negsuc 0)
unfolding sign_sum_of running products add mul of_int
small-sign_sum = refl

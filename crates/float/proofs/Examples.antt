-- Worked examples, computed: document 01's P9, the root in K, the signs of zero, halves, and bytes. Assumes nothing.
use Rattle.std.proofs.Common.{◌≡◌, false, [], ◌∷◌, pos, refl}
use lib.Ieee.{fin, nan, inf, binary32, of_bits, to_bits, div, to_unsigned}
use Rattle.digits.specs.Digits.{number, digits}
use Rattle.float.specs.Bytes.{of_le_bytes, to_le_bytes}
use Rattle.float.specs.Rounding.{floor_unsigned, round_unsigned}
use Rattle.float.specs.SquareRoot.{square_root}

-- 'The root of 2.0 is 3FB504F3.'
pub root-of-two : to_bits binary32 (square_root (of_bits binary32 0x4000_0000)) ≡ 0x3FB5_04F3
unfolding to_bits square_root of_bits
root-of-two = refl

-- 'PI is 40490FDB'; K's root is that of PI / 2
pub root-of-half-pi : to_bits binary32 (square_root (div binary32 (of_bits binary32 0x4049_0FDB) (of_bits binary32 0x4000_0000))) ≡ 0x3FA0_6C99
unfolding to_bits square_root of_bits div
root-of-half-pi = refl

-- '−0.0 gives −0.0'
pub root-of-minus-zero : to_bits binary32 (square_root (of_bits binary32 0x8000_0000)) ≡ 0x8000_0000
unfolding to_bits square_root of_bits
root-of-minus-zero = refl

-- 'below zero gives NaN'
pub root-of-minus-one : square_root (of_bits binary32 0xBF80_0000) ≡ nan
unfolding square_root of_bits
root-of-minus-one = refl

pub root-of-infinity : square_root (inf false) ≡ inf false
unfolding square_root
root-of-infinity = refl

-- the smallest f32, 2 ^ -149, has the root 2 ^ -74.5
pub root-of-smallest : to_bits binary32 (square_root (of_bits binary32 1)) ≡ 0x1A35_04F3
unfolding to_bits square_root of_bits
root-of-smallest = refl

-- 0.5, 2.5 and 1.5
pub round-half : round_unsigned 16 (of_bits binary32 0x3F00_0000) ≡ 1
unfolding round_unsigned of_bits
round-half = refl

pub round-two-and-half : round_unsigned 16 (of_bits binary32 0x4020_0000) ≡ 3
unfolding round_unsigned of_bits
round-two-and-half = refl

pub floor-one-and-half : floor_unsigned 32 (of_bits binary32 0x3FC0_0000) ≡ 1
unfolding to_unsigned of_bits
floor-one-and-half = refl

-- 1.0 and -0.0 as bytes, and back
pub bytes-of-one : to_le_bytes (of_bits binary32 0x3F80_0000) ≡ 0 ∷ 0 ∷ 0x80 ∷ 0x3F ∷ []
unfolding to_le_bytes digits to_bits of_bits
bytes-of-one = refl

pub bytes-of-minus-zero : to_le_bytes (of_bits binary32 0x8000_0000) ≡ 0 ∷ 0 ∷ 0 ∷ 0x80 ∷ []
unfolding to_le_bytes digits to_bits of_bits
bytes-of-minus-zero = refl

pub one-of-bytes : of_le_bytes (0 ∷ 0 ∷ 0x80 ∷ 0x3F ∷ []) ≡ fin false 1 (pos 0)
unfolding of_le_bytes number of_bits
one-of-bytes = refl

-- Document 01's worked cases of bit packing, computed: P1 to P7 and the two lengths. Bytes are hexadecimal, as there.
-- Assumes nothing.
use Prim.Native.Nat.{ℕ, ◌-◌, ◌^◌, ◌≤◌}
use mathlib.Core.Path.{◌≡◌, refl}
use mathlib.Core.List.{[], ◌∷◌}
use native.Mathlib.Nat.{zero-mul}
use lib.IntN.{pos, negsuc}
use borrow.Author.Tests.{le-ltb}
use Rattle.error.specs.Answer.{value, refused, place}
use Rattle.digits.specs.Digits.{number, digits}
use Rattle.bitpack.specs.Padding.{bad_padding}
use Rattle.bitpack.specs.Packing.{packed_len_of, pack_indices_of, unpack_indices_of}
use Rattle.bitpack.specs.Signs.{pack_signs_of, unpack_signs_of}

-- '2 bits, (1, 2, 3): 39.'
pub p1 : pack_indices_of (1 ∷ 2 ∷ 3 ∷ []) 2 1 ≡ value (0x39 ∷ [])
unfolding pack_indices_of place number digits
p1 = refl

-- '79 with count 3: 14, place 0.'
pub p2 : unpack_indices_of (0x79 ∷ []) 3 2 3 ≡ refused 14 0
unfolding unpack_indices_of bad_padding
p2 = refl

-- '3 bits, (5, 2): 15.'
pub p3 : pack_indices_of (5 ∷ 2 ∷ []) 3 1 ≡ value (0x15 ∷ [])
unfolding pack_indices_of place number digits
p3 = refl

-- '9 bits, (256, 1): 00 03 00.'
pub p4 : pack_indices_of (256 ∷ 1 ∷ []) 9 3 ≡ value (0x00 ∷ 0x03 ∷ 0x00 ∷ [])
unfolding pack_indices_of place number digits
p4 = refl

-- 'Signs (+, −, +): 05.'
pub p5 : pack_signs_of (pos 1 ∷ negsuc 0 ∷ pos 1 ∷ []) 1 ≡ value (0x05 ∷ [])
unfolding pack_signs_of place number digits
p5 = refl

-- '0D with count 3: 14.'
pub p6 : unpack_signs_of (0x0D ∷ []) 3 3 ≡ refused 14 0
unfolding unpack_signs_of bad_padding
p6 = refl

-- 'No indices: no bytes.'
pub p7 : (bits : ℕ) → 1 ≤ bits → bits ≤ 16 → pack_indices_of [] bits 0 ≡ value []
unfolding pack_indices_of place number digits
p7 bits wide narrow = rw zero-mul (simp (le-ltb bits 1 wide, le-ltb 16 bits narrow))

-- 'Length for 2^60 indices of 16 bits: 19'
pub length-too-long : packed_len_of (2 ^ 60) 16 ≡ refused 19 0
unfolding packed_len_of
length-too-long = refl

-- 'one fewer: 2^61 − 2 bytes'
pub length-longest : packed_len_of (2 ^ 60 - 1) 16 ≡ value (2 ^ 61 - 2)
unfolding packed_len_of
length-longest = refl

-- Signs are packed in bytes and unpacked again, refusals included. 'Sign +1 is bit 1, −1 is bit 0.' Assumes nothing.
use Rattle.std.specs.Prelude.{ℕ, Bool, false, not, cond, ◌||◌, List, [], ◌∷◌, map, eqb, ℤ, pos, negsuc, length}
use Rattle.error.specs.Answer.{Answer, value, first, place, each}
use Rattle.digits.specs.Digits.{number, digits}
use Rattle.bitpack.specs.Padding.{bytes_for, unpack_checks}
use Rattle.error.specs.Checks.{wrong_room}

abbrev pub is_plus : ℤ → Bool
is_plus (pos n) = eqb n 1
is_plus (negsuc n) = false

-- The number is −1: `negsuc n` is −(n + 1).
abbrev pub is_minus : ℤ → Bool
is_minus (pos n) = false
is_minus (negsuc n) = eqb n 0

-- '10: a sign is neither −1 nor 1. Place: its index.' A sketch's signs are whole numbers; those of a rotation are floats.
abbrev pub bad_sketch_sign : ℤ → Bool
bad_sketch_sign z = not (is_plus z || is_minus z)

-- This is the place of the first number that is no sign, or how many numbers there are where each is one.
abbrev pub first_bad_sketch_sign_of : List ℤ → ℕ
first_bad_sketch_sign_of signs = place bad_sketch_sign signs

-- 'Sign +1 is bit 1, −1 is bit 0.'
abbrev pub bit_of_sign : ℤ → ℕ
bit_of_sign z = cond (is_plus z) 1 0

abbrev pub sign_of_bit : ℕ → ℤ
sign_of_bit bit = cond (eqb bit 1) (pos 1) (negsuc 0)

-- These are the bytes of signs, one bit each: the digits, base 256, of the number whose binary digits are the bits.
abbrev pub sign_bytes : List ℤ → List ℕ
sign_bytes signs = digits 256 (bytes_for (length signs)) (number 2 (map bit_of_sign signs))

-- These are the first `count` signs that bytes hold, the other way round.
abbrev pub signs_in : ℕ → List ℕ → List ℤ
signs_in count bytes = map sign_of_bit (digits 2 count (number 256 bytes))

-- 'Packing signs: 10.' 'In every call 6 comes after all input checks.' `room` is the output's length.
unfoldable pub pack_signs_of : List ℤ → ℕ → Answer (List ℕ)
pack_signs_of signs room =
    first
    (each bad_sketch_sign 10 signs
    ∷ wrong_room room (bytes_for (length signs))
    ∷ [])
    (value (sign_bytes signs))

-- 'Unpacking signs: 13, 14.' 'In every call 6 comes after all input checks.' `room` is the output's length.
unfoldable pub unpack_signs_of : List ℕ → ℕ → ℕ → Answer (List ℤ)
unpack_signs_of packed count room =
    first (unpack_checks packed count count room) (value (signs_in count packed))

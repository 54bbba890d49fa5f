-- Indices of b bits are packed in bytes and unpacked again, refusals included. 'Index i of b bits occupies bits i×b upward, least significant first; bit k is bit k
-- mod 8 of byte k/8': the indices are the digits, base 2^b, of one number, and the bytes are its digits, base 256. Assumes nothing.
use Rattle.std.specs.Prelude.{ℕ, ◌-◌, ◌*◌, ◌^◌, List, [], ◌∷◌, ltb, length}
use Rattle.error.specs.Answer.{Answer, value, Check, check, first, place, each}
use Rattle.error.specs.Checks.{wrong_bits, bad_index, wrong_room}
use Rattle.digits.specs.Digits.{number, digits}
use Rattle.bitpack.specs.Padding.{bytes_for, unpack_checks}

-- '19: count times bits exceeds the largest usize. Place 0.'
abbrev pub wrong_overflow : ℕ → ℕ → Check
wrong_overflow count bits = check (ltb (2 ^ 64 - 1) (count * bits)) 19 0

-- This is the place of the first index that is too large, or how many indices there are where none is.
abbrev pub first_bad_index_of : List ℕ → ℕ → ℕ
first_bad_index_of indices bits = place (bad_index bits) indices

-- These are the bytes of indices of `bits` bits each: the digits, base 256, of the number whose digits, base 2^bits, the indices are.
abbrev pub index_bytes : ℕ → List ℕ → List ℕ
index_bytes bits indices = digits 256 (bytes_for (length indices * bits)) (number (2 ^ bits) indices)

-- These are the first `count` indices of `bits` bits each that bytes hold, the other way round.
abbrev pub indices_in : ℕ → ℕ → List ℕ → List ℕ
indices_in bits count bytes = digits (2 ^ bits) count (number 256 bytes)

-- This is the answer of `packed_len`: how many bytes `count` indices of `bits` bits each take.
unfoldable pub packed_len_of : ℕ → ℕ → Answer ℕ
packed_len_of count bits =
    first
    (wrong_bits bits
    ∷ wrong_overflow count bits
    ∷ [])
    (value (bytes_for (count * bits)))

-- 'Packing: 1, 19, the items, then 6.' `room` is the output's length, and the value is what the output holds afterwards.
unfoldable pub pack_indices_of : List ℕ → ℕ → ℕ → Answer (List ℕ)
pack_indices_of indices bits room =
    first
    (wrong_bits bits
    ∷ wrong_overflow (length indices) bits
    ∷ each (bad_index bits) 15 indices
    ∷ wrong_room room (bytes_for (length indices * bits))
    ∷ [])
    (value (index_bytes bits indices))

-- 'Unpacking: 1, 19, 13, 14, then 6.' `room` is the output's length, and the value is what the output holds afterwards.
unfoldable pub unpack_indices_of : List ℕ → ℕ → ℕ → ℕ → Answer (List ℕ)
unpack_indices_of packed count bits room =
    first
    (wrong_bits bits
    ∷ wrong_overflow count bits
    ∷ unpack_checks packed (count * bits) count room)
    (value (indices_in bits count packed))

-- So many bits take so many bytes, and the bits past the last used one must be zero. 'The length is count × b / 8, rounded up.' '14: padding bits not zero. Place:
-- that byte's index in its payload.' Assumes nothing.
use Rattle.std.specs.Prelude.{ℕ, ◌+◌, ◌-◌, ◌/◌, ◌%◌, ◌^◌, Bool, ◌&&◌, List, [], ◌∷◌, length, get_or}
use Rattle.error.specs.Answer.{Answer, Check, check, first, accepted}
use Rattle.error.specs.Checks.{differs, wrong_room}

-- So many bits take this many bytes: a number of bits, over 8, 'rounded up'.
abbrev pub bytes_for : ℕ → ℕ
bytes_for bits = (bits + 7) / 8

-- Where `used` bits are used, the last byte has a bit that is not zero from bit `used` mod 8 up; a byte that is used whole has no padding.
unfoldable pub bad_padding : List ℕ → ℕ → Bool
bad_padding packed used =
    differs (used % 8) 0 && differs (get_or packed (length packed - 1) 0 / 2 ^ (used % 8)) 0

-- '13: byte length wrong. Place: the length found.'
abbrev pub wrong_length : List ℕ → ℕ → Check
wrong_length packed used = check (differs (length packed) (bytes_for used)) 13 (length packed)

-- '14: padding bits not zero. Place: that byte's index in its payload.'
abbrev pub wrong_padding : List ℕ → ℕ → Check
wrong_padding packed used = check (bad_padding packed used) 14 (length packed - 1)

-- 'Unpacking: .. 13, 14, then 6.' `used` bits of the bytes are used, and `count` items go into an output of length `room`.
abbrev pub unpack_checks : List ℕ → ℕ → ℕ → ℕ → List Check
unpack_checks packed used count room = wrong_length packed used ∷ wrong_padding packed used ∷ wrong_room room count ∷ []

-- This is the answer of `validate_padding_zero`, where `used` bits of the bytes are used: 13, then 14, or nothing to refuse.
unfoldable pub validate_padding_zero_of : List ℕ → ℕ → Answer (Unit {0})
validate_padding_zero_of packed used =
    first
    (wrong_length packed used
    ∷ wrong_padding packed used
    ∷ [])
    accepted

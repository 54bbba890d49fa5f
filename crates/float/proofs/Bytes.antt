-- Floats and their four bytes undo each other: the bytes written for an f32 are read as that f32 (`of_le_bytes-to_le_bytes`),
-- and what is read from four bytes whose pattern is no NaN's is written as those bytes (`to_le_bytes-of_le_bytes`). Assumes nothing.
use Rattle.std.proofs.Common.{◌≡◌, ℕ, ◌+◌, ◌^◌, ◌<◌, ◌≤◌, not, T, List, ◌++◌, length, take, drop, sym, ap, ◌∙◌, subst, mod-eq_of_lt, lit<}
use lib.Ieee.{Float, binary32, fits, is_nan, of_bits, to_bits}
use lib.Ieee.Bits.{of_bits-to_bits, to_bits-of_bits, to_bits-lt}
use Rattle.digits.specs.Digits.{number, digits}
use Rattle.digits.proofs.Laws.{Below, number_digits, digits_number, number_lt, length_digits}
use Rattle.digits.proofs.Words.{put_word-room}
use Rattle.float.specs.Bytes.{of_le_bytes, to_le_bytes, put_f32_of}

pub length-to_le_bytes : (x : Float) → length (to_le_bytes x) ≡ 4
unfolding to_le_bytes
length-to_le_bytes x = length_digits 256 4 (to_bits binary32 x)

pub of_le_bytes-to_le_bytes : (x : Float) → T (fits binary32 x) → of_le_bytes (to_le_bytes x) ≡ x
unfolding of_le_bytes to_le_bytes
of_le_bytes-to_le_bytes x h =
    ap (of_bits binary32) (number_digits 256 4 (to_bits binary32 x) (lit< tt) ∙ mod-eq_of_lt (to_bits-lt binary32 x h)) ∙ of_bits-to_bits binary32 x h

pub to_le_bytes-of_le_bytes : (bytes : List ℕ) → Below 256 bytes → length bytes ≡ 4 → T (not (is_nan (of_le_bytes bytes))) → to_le_bytes (of_le_bytes bytes) ≡ bytes
unfolding of_le_bytes to_le_bytes
to_le_bytes-of_le_bytes bytes h l n =
    ap (digits 256 4) (to_bits-of_bits binary32 (number 256 bytes) (subst (λ (k : ℕ). number 256 bytes < 256 ^ k) l (number_lt 256 bytes h)) n)
    ∙ ap (λ (k : ℕ). digits 256 k (number 256 bytes)) (sym l)
    ∙ digits_number 256 bytes h

-- a float is stored where there is room for it
pub put_f32-room : (out : List ℕ) (at : ℕ) (x : Float) → at + 4 ≤ length out → put_f32_of out at x ≡ take at out ++ to_le_bytes x ++ drop (at + 4) out
unfolding put_f32_of to_le_bytes
put_f32-room out at x h = put_word-room out at (to_bits binary32 x) h

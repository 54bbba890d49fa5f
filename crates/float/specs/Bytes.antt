-- A float is stored as four bytes, the least significant first: the digits of its IEEE 754 pattern in base 256. Document 01: 'F32 copies the four little-endian
-- bytes; −0.0 is kept.' Assumes nothing.
use Rattle.std.specs.Prelude.{ℕ, ◌<◌, T, List, length, from_bits, slice_index_or, to_bits, Float}
use Rattle.std.specs.Float.{nan, binary32}
use Rattle.std.specs.Float.Ieee.{fits}
use Rattle.digits.specs.Digits.{number, digits}
use Rattle.digits.specs.Words.{put_word_of}

-- This is the float whose pattern these bytes are; every NaN's pattern reads as the one `nan`.
unfoldable pub of_le_bytes : List ℕ → Float
of_le_bytes bytes = from_bits binary32 (number 256 bytes)

-- These are the four bytes of a float's pattern; `nan` is written as 7FC00000.
unfoldable pub to_le_bytes : Float → List ℕ
to_le_bytes x = digits 256 4 (to_bits binary32 x)

-- The four bytes of a float stand in place of the four at `at`; where there are not four, the list stays as it is.
unfoldable pub put_f32_of : List ℕ → ℕ → Float → List ℕ
put_f32_of out at x = put_word_of out at (to_bits binary32 x)

-- Each float of the list is an f32, as each entry of a lent slice of f32 is.
abbrev pub AreFloats : List Float → Type 0
AreFloats xs = (i : ℕ) → i < length xs → T (fits binary32 (slice_index_or xs i nan))

-- A number is stored as four bytes in a list of bytes, the least significant first. Document 01: 'All little-endian.' Assumes nothing.
use Rattle.std.specs.Prelude.{ℕ, ◌+◌, cond, List, ◌++◌, leb, length, take, drop}
use Rattle.digits.specs.Digits.{digits}

-- The lowest four bytes of n stand in place of the four at `at`; where there are not four, the list stays as it is.
unfoldable pub put_word_of : List ℕ → ℕ → ℕ → List ℕ
put_word_of out at n = cond (leb (at + 4) (length out)) (take at out ++ digits 256 4 n ++ drop (at + 4) out) out

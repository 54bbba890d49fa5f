-- What storing four bytes leaves, where there is room for them and where there is none. Assumes nothing.
use Prim.Native.Nat.{ℕ, ◌+◌, ◌≤◌, ◌<◌}
use mathlib.Core.Path.{◌≡◌}
use mathlib.Core.List.{List, ◌++◌}
use borrow.Author.Tests.{le-leb, lt-leb}
use lib.ListN.{length, take, drop}
use Rattle.digits.specs.Digits.{digits}
use Rattle.digits.specs.Words.{put_word_of}

module _ (out : List ℕ) (at n : ℕ) where
  pub put_word-room : at + 4 ≤ length out → put_word_of out at n ≡ take at out ++ digits 256 4 n ++ drop (at + 4) out
  unfolding put_word_of
  put_word-room h = rw (le-leb _ _ h)

  pub put_word-none : length out < at + 4 → put_word_of out at n ≡ out
  unfolding put_word_of
  put_word-none h = rw (lt-leb _ _ h)

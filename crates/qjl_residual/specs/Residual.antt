-- This is the residual: a scale times the sum of sign times projected value. Quotes are document 01's where they name no other. Assumes nothing.
use Rattle.std.specs.Prelude.{ℕ, List, map, ℤ, pos, Float}
use Rattle.std.specs.Float.{binary32}
use Rattle.std.specs.Float.Ieee.{mul, div, of_int}
use Rattle.float.specs.SquareRoot.{square_root}
use Rattle.float.specs.Constants.{two, pi}
use Rattle.rounding.specs.Sums.{dot}

-- This is root(PI / 2), with 'PI is 40490FDB'; quotient and root are each rounded once.
unfoldable pub root : Float
root = square_root (div binary32 pi two)

-- Document 02: 'K becomes root(PI / 2) × norm / m, in that order', each step rounded once.
unfoldable pub scale_of : ℕ → Float → Float
scale_of m norm = div binary32 (mul binary32 root norm) (of_int binary32 (pos m))

-- 'the sum of sign times projected value'; 'Sums run in index order from +0.0.' It ends with the shorter list, and a sign counts by its value.
unfoldable pub sign_sum_of : List ℤ → List Float → Float
sign_sum_of signs values = dot (map (of_int binary32) signs) values

-- 'Residual: scale times the sum of sign times projected value'.
unfoldable pub residual_of : ℕ → Float → List Float → List ℤ → Float
residual_of m norm values signs = mul binary32 (scale_of m norm) (sign_sum_of signs values)

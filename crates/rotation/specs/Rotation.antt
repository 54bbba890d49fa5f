-- The Hadamard rotation and its inverse stand here, each step rounded once as in the Rust, and what a call of either answers. Assumes nothing.
use Rattle.std.specs.Prelude.{ℕ, false, List, map, pos, length, Float}
use Rattle.std.specs.Int.Count.{count_trailing_zeros}
use Rattle.std.specs.Float.{binary32}
use Rattle.std.specs.Float.Ieee.{add, sub, mul, div, of_int}
use Rattle.error.specs.Answer.{Answer, value, first}
use Rattle.float.specs.SquareRoot.{square_root}
use Rattle.rounding.specs.Butterfly.{stages}
use Rattle.rounding.specs.Sums.{products}
use Rattle.float.specs.Constants.{pos_zero, one}
use Rattle.rotation.specs.Checks.{rotation_checks}

-- '`1 / sqrt(n)`, root and quotient each rounded once'.
unfoldable pub inverse_root : ℕ → Float
inverse_root n = div binary32 (one false) (square_root (of_int binary32 (pos n)))

-- Each value is multiplied by the factor.
unfoldable pub scaled : Float → List Float → List Float
scaled factor xs = map (λ x. mul binary32 x factor) xs

-- 'butterflies with step 1, 2, 4 and on, then a product with `1 / sqrt(n)`'; 'trailing_zeros gives the number of butterfly steps'.
unfoldable pub hadamard_of : ℕ → List Float → List Float
hadamard_of n xs = scaled (inverse_root n) (stages (add binary32) (sub binary32) pos_zero (count_trailing_zeros 64 n) 1 xs)

-- 'Signs first, then butterflies .., then a product ..'.
unfoldable pub rotated : ℕ → List Float → List Float → List Float
rotated n signs xs = hadamard_of n (products xs signs)

-- 'The inverse takes butterflies, scale, signs.'
unfoldable pub unrotated : ℕ → List Float → List Float → List Float
unrotated n signs ys = products (hadamard_of n ys) signs

-- These are the answers of the two calls; 'values that aren't finite pass through'. `room` is the output's length.
unfoldable pub apply_of : ℕ → List Float → List Float → ℕ → Answer (List Float)
apply_of n signs xs room = first (rotation_checks n signs (length xs) room) (value (rotated n signs xs))

unfoldable pub apply_inverse_of : ℕ → List Float → List Float → ℕ → Answer (List Float)
apply_inverse_of n signs ys room = first (rotation_checks n signs (length ys) room) (value (unrotated n signs ys))

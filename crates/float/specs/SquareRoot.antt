-- The square root of an f32 stands here twice. `NearestRoot x r` says what it is: r is the f32 nearest to the root of x, by comparing integer squares. `square_root`
-- works it out for every float. Document 01: 'The root of any f32 is IEEE 754 squareRoot, shown by comparing integer squares: −0.0 gives −0.0, below zero gives
-- NaN.' Assumes nothing.
use Rattle.std.specs.Prelude.{ℕ, zero, suc, ◌+◌, ◌-◌, ◌*◌, ◌/◌, ◌^◌, ◌<◌, false, cond, T, from_bits, nat_le, nat_lt, Float}
use Rattle.std.specs.Float.{nan, inf, fin, binary32}
use Rattle.std.specs.Float.Ieee.{fits, size}
use Rattle.float.specs.Units.{non_negative, unit, mag}

abbrev pub square : ℕ → ℕ
square a = a * a

-- In units of 2 ^ -149 the root of x is the real number whose square is `mag x * 2 ^ 149`. Of two floats r and y, r is nearer to the root exactly where the root
-- lies on r's side of the midpoint (r + y) / 2: for y below r, where (r + y) ^ 2 is below 4 * mag x * 2 ^ 149, and for y above r the other way round. Here r is a
-- finite f32 that is not negative, and it is nearer than every other such y. Nearer is strict: the midpoint of two neighbours ends one binary place below an f32's
-- last, so its square has more digits than an f32 holds, a tie can't occur, and how a tie is rounded never has to be asked. Of x only its size counts here: it is cited
-- for an x that is finite and not negative.
pub record NearestRoot (x r : Float) : Type 0 where
  pub fit : T (fits binary32 r)
  pub not_negative : T (non_negative r)
  pub above_smaller : (y : Float) → T (fits binary32 y) → T (non_negative y) → mag y < mag r → square (mag y + mag r) < 4 * (mag x * 2 ^ 149)
  pub below_larger : (y : Float) → T (fits binary32 y) → T (non_negative y) → mag r < mag y → 4 * (mag x * 2 ^ 149) < square (mag y + mag r)

-- This is the root of n, cut to a whole number: to r, what was found so far, j more binary digits are added, the highest first, where the square stays at most n.
unfoldable pub root_bits : ℕ → ℕ → ℕ → ℕ
root_bits zero r n = r
root_bits (suc j) r n = root_bits j (cond (nat_le (square (r + 2 ^ j)) n) (r + 2 ^ j) r) n

-- This is the whole number nearest to the root of an n below 2 ^ 48: the root cut, q, or one more where n is above (q + 1/2) ^ 2.
unfoldable pub nearest_root : ℕ → ℕ
unfolding root_bits
nearest_root n = let q = root_bits 24 0 n in cond (nat_lt (square q + q) n) (suc q) q

-- The root of n has half as many binary digits as n, rounded up. It keeps 24 of them and drops this many.
unfoldable pub dropped : ℕ → ℕ
unfolding size
dropped n = (size n + 1) / 2 - 24

-- This is the pattern of the f32 nearest to the root of n, with n counted in units of 2 ^ -298 and the root in units of 2 ^ -149.
unfoldable pub root_pattern : ℕ → ℕ
unfolding nearest_root dropped
root_pattern n = dropped n * 2 ^ 23 + nearest_root (n / 2 ^ (2 * dropped n))

-- This is IEEE 754's squareRoot: a zero is its own root, with its sign, and what is below zero gives NaN.
unfoldable pub square_root : Float → Float
unfolding root_pattern mag unit
square_root nan = nan
square_root (inf s) = cond s nan (inf false)
square_root (fin s zero e) = fin s zero e
square_root (fin s (suc m) e) = cond s nan (from_bits binary32 (root_pattern (mag (fin false (suc m) e) * 2 ^ 149)))

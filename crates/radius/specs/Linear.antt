-- A linear radius is kept as a number of 16 bits within a range, and read back, each float step rounded once, in the Rust's order. Quotes are document 01's.
-- Assumes nothing.
use Rattle.std.specs.Prelude.{ℕ, false, cond, List, pos, Float}
use Rattle.std.specs.Float.{binary32}
use Rattle.std.specs.Float.Ieee.{add, sub, mul, div, lt, of_int}
use Rattle.digits.specs.Digits.{number, digits}
use Rattle.float.specs.Rounding.{round_unsigned, clamped}
use Rattle.float.specs.Constants.{pos_zero, one}
use Rattle.radius.specs.Radii.{top_float, epsilon_float}
use Rattle.radius.specs.declared.Range.{Range}

-- 'Compress divides by max − min, but at least 2^−23'.
unfoldable pub span_of : Range → Float
span_of range = let width = sub binary32 range.max range.min in cond (lt epsilon_float width) width epsilon_float

-- The number of a radius r, from 0 at `lo` to 65,535 a `span` above it: 'the product with 65,535 is rounded half away from zero'.
unfoldable pub quantize_radius_of : Float → Float → Float → ℕ
quantize_radius_of lo span r = round_unsigned 16 (mul binary32 (clamped pos_zero (one false) (div binary32 (sub binary32 r lo) span)) top_float)

-- These are the two bytes of that number, the least significant first.
unfoldable pub linear_bytes : Range → Float → List ℕ
linear_bytes range r = digits 256 2 (quantize_radius_of range.min (span_of range) r)

-- 'Decompress multiplies by max − min itself.' This is the radius of the number n.
unfoldable pub radius_of : Range → ℕ → Float
radius_of range n = add binary32 range.min (mul binary32 (sub binary32 range.max range.min) (div binary32 (of_int binary32 (pos n)) top_float))

-- This is the radius that two bytes stand for.
unfoldable pub linear_radius : Range → List ℕ → Float
linear_radius range bytes = radius_of range (number 256 bytes)

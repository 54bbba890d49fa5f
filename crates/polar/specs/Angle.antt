-- An index stands for an angle, each step rounded, and this is what a call for it answers. Document 01: 'An angle: 1, 15.' Assumes nothing.
use Rattle.std.specs.Prelude.{ℕ, ◌^◌, [], ◌∷◌, pos, Float}
use Rattle.std.specs.Float.{binary32}
use Rattle.std.specs.Float.Ieee.{sub, mul, div, of_int}
use Rattle.error.specs.Answer.{Answer, value, first}
use Rattle.error.specs.Checks.{wrong_bits, wrong_index}
use Rattle.float.specs.Constants.{two, pi}

-- This is 2 PI, the product of 2.0 and PI as an f32.
unfoldable pub twice_pi : Float
twice_pi = mul binary32 two pi

-- 'The angle of index i is (i / levels) × (2 PI) − PI, each step rounded.' The levels are 2^bits.
unfoldable pub radians : ℕ → ℕ → Float
radians bits index = sub binary32 (mul binary32 (div binary32 (of_int binary32 (pos index)) (of_int binary32 (pos (2 ^ bits)))) twice_pi) pi

-- This is what `dequantize_angle` answers.
unfoldable pub dequantize_angle_of : ℕ → ℕ → Answer Float
dequantize_angle_of bits index = first (wrong_bits bits ∷ wrong_index bits index ∷ []) (value (radians bits index))

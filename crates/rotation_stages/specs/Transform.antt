-- These are all stages of butterflies, each sum and difference rounded once. Assumes nothing.
use Rattle.std.specs.Prelude.{ℕ, ◌^◌, cond, List, eqb, length, Float}
use Rattle.std.specs.Float.{binary32}
use Rattle.std.specs.Float.Ieee.{add, sub}
use Rattle.float.specs.Constants.{pos_zero}
use Rattle.rounding.specs.Butterfly.{stages}

-- 'butterflies with step 1, 2, 4 and on' (document 01): `count` stages, of two to the count values. Where there are more or fewer, they stay as they are.
unfoldable pub transformed_of : ℕ → List Float → List Float
transformed_of count xs = cond (eqb (length xs) (2 ^ count)) (stages (add binary32) (sub binary32) pos_zero count 1 xs) xs

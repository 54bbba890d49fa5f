-- Document 01's worked example of a rotation, computed. Assumes nothing.
use mathlib.Core.Path.{◌≡◌, refl}
use mathlib.Core.Bool.{true, false}
use mathlib.Core.List.{[], ◌∷◌}
use lib.Count.{ones, ones_in, count_trailing_zeros}
use lib.IntN.{pos}
use lib.Ieee.{Float, fin, add, sub, mul, div, of_int, ne, of_bits}
use Rattle.error.specs.Answer.{value, place}
use Rattle.float.specs.SquareRoot.{square_root}
use Rattle.rounding.specs.Butterfly.{stages, stage, entry, from}
use Rattle.rounding.specs.Sums.{products}
use Rattle.rotation.specs.Rotation.{apply_of, rotated, hadamard_of, scaled, inverse_root}

abbrev plus : Float
plus = fin false 1 (pos 0)

-- P8: '(1, 2, 3, 4), all signs +, gives (5, −1, −2, 0).'
pub p8 : apply_of 4 (plus ∷ plus ∷ plus ∷ plus ∷ []) (fin false 1 (pos 0) ∷ fin false 1 (pos 1) ∷ fin false 3 (pos 0) ∷ fin false 1 (pos 2) ∷ []) 4
    ≡ value (fin false 5 (pos 0) ∷ fin true 1 (pos 0) ∷ fin true 1 (pos 1) ∷ fin false 0 (pos 0) ∷ [])
unfolding apply_of rotated hadamard_of scaled inverse_root square_root stages stage entry from products add sub mul div of_int ne ones ones_in count_trailing_zeros place of_bits
p8 = refl

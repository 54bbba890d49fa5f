-- The rotation without rounding takes the same steps over whole numbers, 'taking .. 1/sqrt(n) .. as the floats that they are'. An entry is a whole number of units
-- of 2 ^ -298, since a value is a whole number of units of 2 ^ -149 and so is 1/sqrt(n). Assumes nothing.
use Rattle.std.specs.Prelude.{ℕ, Bool, List, map, Float}
use Rattle.std.specs.Int.Count.{count_trailing_zeros}
use Rattle.std.specs.Float.Ieee.{lt}
use Rattle.rounding.specs.Signed.{Diff, nought, ◌⊞◌, ◌⊟◌, ◌⊠◌}
use Rattle.rounding.specs.Value.{val}
use Rattle.float.specs.Constants.{pos_zero}
use Rattle.rounding.specs.Sums.{turned_each}
use Rattle.rounding.specs.Butterfly.{stages}
use Rattle.rotation.specs.Rotation.{inverse_root}

-- The sign is -1, which is told by its being below zero.
abbrev pub negative : Float → Bool
negative s = lt s pos_zero

-- 'the query rotated without rounding': signs, butterflies and the product with 1/sqrt(n), each exact.
unfoldable pub exact_rotated : ℕ → List Float → List Float → List Diff
exact_rotated n signs xs =
    map (λ x. x ⊠ val (inverse_root n)) (stages ◌⊞◌ ◌⊟◌ nought (count_trailing_zeros 64 n) 1 (turned_each (map negative signs) (map val xs)))

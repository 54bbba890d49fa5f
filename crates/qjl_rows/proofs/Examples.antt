-- A small projection, computed. Assumes nothing.
use mathlib.Core.Path.{◌≡◌, refl}
use mathlib.Core.Bool.{true, false}
use mathlib.Core.List.{[], ◌∷◌}
use lib.IntN.{pos, negsuc}
use lib.Ieee.{fin, add, mul}
use Rattle.float.specs.Constants.{one}
use Rattle.lists.specs.Chunks.{chunks}
use Rattle.rounding.specs.Sums.{running, products}
use Rattle.rounding.specs.Rows.{projected}

-- (1, 2) and (3, -1) on (2, 0.5): 3 and 5.5
pub small-projection : projected 2 2 (one false ∷ fin false 1 (pos 1) ∷ fin false 3 (pos 0) ∷ one true ∷ []) (fin false 1 (pos 1) ∷ fin false 1 (negsuc 0) ∷ [])
    ≡ fin false 3 (pos 0) ∷ fin false 11 (negsuc 0) ∷ []
unfolding projected chunks running products add mul
small-projection = refl

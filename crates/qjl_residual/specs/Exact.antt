-- This is the residual without rounding, the sum of absolute values that bounds it, and the whole number that stands for the norm in the bound of a score. Quotes
-- are document 01's where they name no other. Assumes nothing.
use Rattle.std.specs.Prelude.{ℕ, ◌+◌, ◌*◌, ◌-◌, ◌/◌, max, List, map, ℤ, Float}
use Rattle.rounding.specs.Signed.{Diff, ◌⊠◌}
use Rattle.rounding.specs.Value.{val}
use Rattle.float.specs.Units.{unit, mag}
use Rattle.rounding.specs.Sums.{exact_total, turned_each, sum}
use Rattle.rounding.specs.Rows.{exact_projected, projected_sizes}
use Rattle.bitpack.specs.Signs.{is_minus}

-- 'K × the sum over rows of the record's sign × projected value', as a whole number of 2^−447: three factors of 2^−149 each.
unfoldable pub exact_residual : Float → ℕ → ℕ → List Float → List Float → List ℤ → Diff
exact_residual scale n m matrix query signs = val scale ⊠ exact_total (turned_each (map is_minus signs) (exact_projected n m matrix query))

-- 'K × the sum of all |matrix entry × query entry|', at the same scale.
unfoldable pub residual_size : Float → ℕ → ℕ → List Float → List Float → ℕ
residual_size scale n m matrix query = mag scale * sum (projected_sizes n m matrix query)

-- Document 02: 'In the bound, n×m is multiplied by a whole number: the norm rounded up, and at least 1.' The norm is a whole number of 2^−149, of which `unit` make 1.
unfoldable pub whole_norm : Float → ℕ
whole_norm norm = max 1 ((mag norm + (unit - 1)) / unit)

-- This is the sketch of a vector, the sign of each of its projections, and what `sketch` answers. Quotes are document 01's. Assumes nothing.
use Rattle.std.specs.Prelude.{ℕ, cond, List, [], ◌∷◌, ◌++◌, map, ℤ, pos, negsuc, length, Float}
use Rattle.std.specs.Float.Ieee.{le}
use Rattle.error.specs.Answer.{Answer, value, Check, first, each}
use Rattle.float.specs.Constants.{pos_zero}
use Rattle.error.specs.Checks.{wrong_input, wrong_room, bad_value}
use Rattle.setup.specs.Lent.{Lent}
use Rattle.setup.specs.declared.Setup.{Setup}
use Rattle.setup.specs.Setups.{counted_projections_of}
use Rattle.setup_tables.specs.Checks.{setup_checks}
use Rattle.rounding.specs.Rows.{projected}

-- 'Sketch: a row's sum at or above zero gives +1; below, or NaN, −1.' `negsuc 0` is −1.
unfoldable pub sign_of_sum : Float → ℤ
sign_of_sum x = cond (le pos_zero x) (pos 1) (negsuc 0)

-- 'setup, 5, 11 for the vector'; 'setup, query length 5, query 11': these are the checks of a vector or a query under a setup.
abbrev pub vector_checks : Setup → Lent → List Float → List Check
vector_checks s l vector = setup_checks s l ++ (wrong_input (length vector) s.dim ∷ each bad_value 11 vector ∷ [])

-- 'Sketch: setup, 5, 11 for the vector only; in `PolarOnly` it has no signs.' 'In every call 6 comes after all input checks.' `room` is the output's length.
unfoldable pub sketch_of : Setup → Lent → List Float → ℕ → Answer (List ℤ)
sketch_of s l vector room =
    first
    (vector_checks s l vector ++ (wrong_room room (counted_projections_of s) ∷ []))
    (value (map sign_of_sum (projected s.dim (counted_projections_of s) l.matrix vector)))

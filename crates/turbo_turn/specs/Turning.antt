-- A query is rotated and projected under a setup, and no value is judged: these are the checks of that, and what the call answers. Preparing and scoring
-- share it; no promise of document 01 is stated by it. Assumes nothing.
use Rattle.std.specs.Prelude.{ℕ, List, [], ◌∷◌, ◌++◌, length, Float}
use Rattle.error.specs.Answer.{Answer, value, Check, first}
use Rattle.error.specs.Checks.{wrong_input, wrong_room}
use Rattle.rounding.specs.Rows.{projected}
use Rattle.setup.specs.declared.Setup.{Setup}
use Rattle.setup.specs.Lent.{Lent}
use Rattle.setup.specs.Setups.{counted_projections_of, matrix_needed}
use Rattle.setup.specs.Checks.{scalar_checks}
use Rattle.setup_tables.specs.Checks.{direction_checks}
use Rattle.setup_rotation.specs.Rotations.{rotated_by, turn_checks}

-- These are the checks that a rotation does not make: of the scalars, of the directions, and of the lengths of a matrix of so many entries and of the projections'
-- output.
abbrev pub space_checks : Setup → List Float → ℕ → ℕ → List Check
space_checks s directions entries space = scalar_checks s ++ (direction_checks s directions ++ (wrong_input entries (matrix_needed s) ∷ wrong_room space (counted_projections_of s) ∷ []))

-- A query can be rotated and projected where these pass, into outputs of the lengths `room` and `space`. No entry of the projection matrix is judged, and no value of the query.
abbrev pub turned_checks : Setup → Lent → List Float → ℕ → ℕ → List Check
turned_checks s l query room space = space_checks s l.directions (length l.matrix) space ++ turn_checks s l.rotation (length query) room

-- These two are what `turn_query` answers by its first and by its second output.
unfoldable pub turn_rotated_of : Setup → Lent → List Float → ℕ → ℕ → Answer (List Float)
turn_rotated_of s l query room space = first (turned_checks s l query room space) (value (rotated_by s l.rotation query))

unfoldable pub turn_projected_of : Setup → Lent → List Float → ℕ → ℕ → Answer (List Float)
turn_projected_of s l query room space = first (turned_checks s l query room space) (value (projected s.dim (counted_projections_of s) l.matrix query))

-- These are the checks of the tables lent beside a setup's scalars, and of the whole setup, in document 01's order: 'Setup: 2, 3, 1, 8, 4, then 5 for signs,
-- directions, matrix, then 10, 7, 9.' Document 02 of a stored rotation: 'The matrix stands where the signs stood in the checks: a wrong length is 5, an entry that is not
-- finite 9 at its index in the lent column-major order, the lowest such index counting.' Assumes nothing.
use Rattle.std.specs.Prelude.{ℕ, Bool, true, false, not, ◌||◌, List, [], ◌∷◌, ◌++◌, length, Float}
use Rattle.std.specs.Float.Ieee.{lt}
use Rattle.std.specs.Float.Ieee.Scale.{finite}
use Rattle.float.specs.Constants.{one}
use Rattle.error.specs.Answer.{Check, place, each}
use Rattle.error.specs.Checks.{wrong_input, bad_value}
use Rattle.rotation.specs.Checks.{bad_sign}
use Rattle.setup.specs.declared.Setup.{Setup}
use Rattle.setup.specs.declared.RotationKind.{RotationKind}
use Rattle.setup.specs.Lent.{Lent}
use Rattle.setup.specs.Setups.{by_rotation, rotation_needed, directions_needed, matrix_needed}
use Rattle.setup.specs.Checks.{scalar_checks}

-- '7: a direction entry is not finite or lies outside −1..1. Place: its index.'
unfoldable pub bad_direction : Float → Bool
bad_direction x = not (finite x) || lt x (one true) || lt (one false) x

-- This is the index of the first direction entry that offends, or how many entries there are where none does.
abbrev pub first_bad_direction_of : List Float → ℕ
first_bad_direction_of directions = place bad_direction directions

-- A sign offends that is neither −1 nor 1, and an entry of a stored rotation's matrix that is not finite.
abbrev pub bad_rotation_entry : RotationKind → Float → Bool
bad_rotation_entry kind x = by_rotation kind (bad_sign x) (bad_value x)

-- 10 names a sign, and 9 an entry of a stored rotation's matrix. The matrix is lent column by column, so that the place is the index 'in the lent column-major order'.
abbrev pub wrong_rotation_entry : RotationKind → List Float → Check
wrong_rotation_entry kind entries = each (bad_rotation_entry kind) (by_rotation kind 10 9) entries

-- 'then 5 for signs, directions, matrix': these are the checks of the tables' lengths.
abbrev pub table_length_checks : Setup → Lent → List Check
table_length_checks s l =
    wrong_input (length l.rotation) (rotation_needed s)
    ∷ wrong_input (length l.directions) (directions_needed s)
    ∷ wrong_input (length l.matrix) (matrix_needed s)
    ∷ []

-- 'then 10, 7': these are the checks of the tables, but for the projection matrix's entries.
abbrev pub table_checks_but_entries : Setup → Lent → List Check
table_checks_but_entries s l = table_length_checks s l ++ (wrong_rotation_entry s.kind l.rotation ∷ each bad_direction 7 l.directions ∷ [])

-- '.. 9: a matrix entry is not finite. Place: its index.' 'The first matrix entry, row by row, that is not finite is named': the matrix is lent row by row, so the
-- entry at row r and column c has index r × n + c.
abbrev pub entry_checks : List Float → List Check
entry_checks matrix = each bad_value 9 matrix ∷ []

-- These are all checks of the tables.
abbrev pub table_checks : Setup → Lent → List Check
table_checks s l = table_checks_but_entries s l ++ entry_checks l.matrix

-- 'Setup: 2, 3, 1, 8, 4, then 5 for signs, directions, matrix, then 10, 7, 9.' A stored rotation's: 2, 3, 1, 8, 26, 5 for both matrices and the directions between
-- them, then 9 for the rotation's matrix, 7, and 9 for the other.
abbrev pub setup_checks : Setup → Lent → List Check
setup_checks s l = scalar_checks s ++ table_checks s l

-- These are all of them but those of the projection matrix's entries, which come last.
abbrev pub setup_checks_but_entries : Setup → Lent → List Check
setup_checks_but_entries s l = scalar_checks s ++ table_checks_but_entries s l

-- The table of directions is checked alone where neither a rotation nor a matrix is lent.
abbrev pub direction_checks : Setup → List Float → List Check
direction_checks s directions = wrong_input (length directions) (directions_needed s) ∷ each bad_direction 7 directions ∷ []

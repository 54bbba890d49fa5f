-- These are the checks of a stored rotation, in document 02's order: 'The matrix stands where the signs stood in the checks'. Where document 01 has 'Rotating either
-- way: 2, 3, 4, 5 for the signs, 10, 5 for the input', they are 2, 3, 26, 5 for the matrix, 9, 5 for the input. Assumes nothing.
use Rattle.std.specs.Prelude.{ℕ, ◌*◌, Bool, List, [], ◌∷◌, ◌++◌, ltb, length, Float}
use Rattle.error.specs.Answer.{Check, check, each}
use Rattle.error.specs.Checks.{wrong_input, wrong_room, bad_value}
use Rattle.rotation.specs.Checks.{wrong_zero_dimension, wrong_odd_dimension}

-- 'It takes even dimensions to 512.' An odd one is refused before.
abbrev pub bad_stored : ℕ → Bool
bad_stored n = ltb 512 n

-- '26 when a stored rotation's dimension exceeds 512, in the place of 4': that is its turn in the order. No place is named beside the number, so it is 0.
abbrev pub wrong_stored : ℕ → Check
wrong_stored n = check (bad_stored n) 26 0

-- 'a wrong length is 5': the matrix has n × n entries. Then 'an entry that is not finite 9 at its index in the lent column-major order, the lowest such index counting.'
abbrev pub matrix_checks : ℕ → List Float → List Check
matrix_checks n matrix =
    wrong_zero_dimension n
    ∷ wrong_odd_dimension n
    ∷ wrong_stored n
    ∷ wrong_input (length matrix) (n * n)
    ∷ each bad_value 9 matrix
    ∷ []

-- '.. 5 for the input'; 'In every call 6 comes after all input checks.' (document 01) `long` is the input's length, and `room` the output's.
abbrev pub stored_checks : ℕ → List Float → ℕ → ℕ → List Check
stored_checks n matrix long room = matrix_checks n matrix ++ (wrong_input long n ∷ wrong_room room n ∷ [])

-- This is what `project` answers, which projects a query on the rows of a lent matrix. Quotes are document 01's. Assumes nothing.
use Rattle.std.specs.Prelude.{ℕ, ◌*◌, List, [], ◌∷◌, length, Float}
use Rattle.error.specs.Answer.{Answer, value, Check, first}
use Rattle.error.specs.Checks.{wrong_input}
use Rattle.rounding.specs.Rows.{projected}

-- '5: a lent input's length .. differs from the setup's': first that of the query, then that of the matrix, which has n entries for each value of the output.
abbrev pub project_checks : ℕ → List Float → List Float → ℕ → List Check
project_checks n matrix query room = wrong_input (length query) n ∷ wrong_input (length matrix) (room * n) ∷ []

-- `room` is the output's length, which is the number of rows.
unfoldable pub project_of : ℕ → List Float → List Float → ℕ → Answer (List Float)
project_of n matrix query room = first (project_checks n matrix query room) (value (projected n room matrix query))

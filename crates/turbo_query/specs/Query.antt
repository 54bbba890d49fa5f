-- A query is prepared under a setup: rotated, and projected on the rows of the matrix. These are its checks, and what a call that prepares it answers. Document 01:
-- 'Scoring follows `TurboQuantizer::inner_product_estimate`: setup, query length 5, query 11, rotated 11, projected 11, ..'; 'Preparing a query stops before record
-- reading.' Assumes nothing.
use Rattle.std.specs.Prelude.{ℕ, List, [], ◌∷◌, ◌++◌, Float}
use Rattle.error.specs.Answer.{Answer, value, Check, first, each}
use Rattle.error.specs.Checks.{wrong_room, bad_value}
use Rattle.setup.specs.Lent.{Lent}
use Rattle.setup.specs.declared.Setup.{Setup}
use Rattle.setup.specs.Setups.{counted_projections_of}
use Rattle.setup_rotation.specs.Rotations.{rotated_by}
use Rattle.qjl.specs.Sketch.{vector_checks}
use Rattle.rounding.specs.Rows.{projected}

-- This is the query rotated, by the rotation that the setup has.
abbrev pub rotated_query : Setup → Lent → List Float → List Float
rotated_query s l query = rotated_by s l.rotation query

-- This is the query projected; 'In `PolarOnly` m counts as 0', so then there is no row.
abbrev pub projected_query : Setup → Lent → List Float → List Float
projected_query s l query = projected s.dim (counted_projections_of s) l.matrix query

-- 'rotated 11, projected 11': 'a value is not finite, .. after rotation or after projection. Place: its index there.'
abbrev pub finite_checks : Setup → Lent → List Float → List Check
finite_checks s l query = each bad_value 11 (rotated_query s l query) ∷ each bad_value 11 (projected_query s l query) ∷ []

-- These are all checks of a query: 'setup, query length 5, query 11, rotated 11, projected 11'.
abbrev pub query_checks : Setup → Lent → List Float → List Check
query_checks s l query = vector_checks s l query ++ finite_checks s l query

-- 'In every call 6 comes after all input checks.' Of the two outputs the rotated one is judged first; `room` and `space` are their lengths.
abbrev pub prepare_checks : Setup → Lent → List Float → ℕ → ℕ → List Check
prepare_checks s l query room space = query_checks s l query ++ (wrong_room room s.dim ∷ wrong_room space (counted_projections_of s) ∷ [])

-- These two are what `prepare_query` answers by its first and by its second output: neither is written unless both fit.
unfoldable pub prepare_rotated_of : Setup → Lent → List Float → ℕ → ℕ → Answer (List Float)
prepare_rotated_of s l query room space = first (prepare_checks s l query room space) (value (rotated_query s l query))

unfoldable pub prepare_projected_of : Setup → Lent → List Float → ℕ → ℕ → Answer (List Float)
prepare_projected_of s l query room space = first (prepare_checks s l query room space) (value (projected_query s l query))

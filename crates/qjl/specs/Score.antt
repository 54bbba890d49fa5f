-- This is what `sketch_score` answers: its checks, and the residual of the projected query with the sketch's norm. Quotes are document 01's where they name no
-- other. Assumes nothing.
use Rattle.std.specs.Prelude.{ℕ, List, [], ◌∷◌, ℤ, length, Float}
use Rattle.error.specs.Answer.{Answer, value, Check, first, each}
use Rattle.error.specs.Checks.{wrong_input, wrong_score, bad_value}
use Rattle.float.specs.Constants.{pos_zero}
use Rattle.bitpack.specs.Signs.{bad_sketch_sign}
use Rattle.radius.specs.Radii.{wrong_norm}
use Rattle.rounding.specs.Rows.{projected}
use Rattle.qjl_residual.specs.Residual.{residual_of}
use Rattle.setup.specs.Lent.{Lent}
use Rattle.setup.specs.declared.Setup.{Setup}
use Rattle.setup.specs.declared.TurboMode.{TurboMode}
use Rattle.setup.specs.declared.TurboMode.TheVariants.{PolarOnly, PolarWithQjl}
use Rattle.qjl.specs.Sketch.{vector_checks}

-- 'projected 11, 5 and 10 for the signs, 12': these follow the checks of the query, and m signs are asked for. Document 02: '23 when the norm is not finite or below
-- zero, checked .. in a sketch score after 10'.
abbrev pub signed_checks : ℕ → List Float → List ℤ → Float → Float → List Check
signed_checks m values signs norm score = each bad_value 11 values ∷ wrong_input (length signs) m ∷ each bad_sketch_sign 10 signs ∷ wrong_norm norm ∷ wrong_score score ∷ []

-- This is the score from a projected query in residual mode.
unfoldable pub signed_score : ℕ → List Float → List ℤ → Float → Answer Float
signed_score m values signs norm = first (signed_checks m values signs norm (residual_of m norm values signs)) (value (residual_of m norm values signs))

-- 'in `PolarOnly` it is 0': no row is projected, the signs must be empty, and the norm is checked all the same.
unfoldable pub mode_score : TurboMode → ℕ → ℕ → List Float → List Float → List ℤ → Float → Answer Float
mode_score PolarOnly n m matrix query signs norm = first (wrong_input (length signs) 0 ∷ wrong_norm norm ∷ []) (value pos_zero)
mode_score PolarWithQjl n m matrix query signs norm = signed_score m (projected n m matrix query) signs norm

-- 'A sketch score takes lent signs: setup, query length 5, query 11, projected 11, 5 and 10 for the signs, 12; in `PolarOnly` it is 0.' The norm is the last
-- argument, and its 23 stands between 10 and 12.
unfoldable pub sketch_score_of : Setup → Lent → List Float → List ℤ → Float → Answer Float
sketch_score_of s l query sketch norm = first (vector_checks s l query) (mode_score s.mode s.dim s.projections l.matrix query sketch norm)

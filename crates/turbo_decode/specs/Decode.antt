-- A record is decoded into its pairs, rotated back. Document 01: '`decode_approximate`: setup, record reading, 5, 20; infinities in its output pass.' Document 02: of
-- a withdrawn position withdrawn is answered 'after the setup's checks, before 6, with nothing written'. Assumes nothing.
use Rattle.std.specs.Prelude.{ℕ, List, [], ◌∷◌, ◌++◌, Float}
use Rattle.error.specs.Answer.{Answer, value, Check, first}
use Rattle.error.specs.Checks.{wrong_room}
use Rattle.setup.specs.Lent.{Lent}
use Rattle.setup.specs.declared.Setup.{Setup}
use Rattle.setup_tables.specs.Checks.{setup_checks}
use Rattle.setup_rotation.specs.Rotations.{unrotated_by}
use Rattle.polar.specs.Polar.{decoded_pairs}
use Rattle.packed.specs.Reading.{unless_withdrawn, radii_of, indices_of}
use Rattle.turbo_opening.specs.Opening.{open_checks}

-- These are (r × c, r × s) of each pair, rotated back by the rotation that the setup has.
abbrev pub decoded : Setup → Lent → List ℕ → List Float
decoded s l bytes = unrotated_by s l.rotation (decoded_pairs l.directions (indices_of bytes) (radii_of bytes))

-- These come behind the setup's checks: 'record reading, 5, 20'; 'In every call 6 comes after all input checks.' `room` is the output's length.
abbrev pub decode_checks : Setup → List ℕ → ℕ → List Check
decode_checks s bytes room = open_checks s bytes ++ (wrong_room room s.dim ∷ [])

unfoldable pub decode_approximate_of : Setup → Lent → List ℕ → ℕ → Answer (List Float)
decode_approximate_of s l bytes room = first (setup_checks s l) (unless_withdrawn bytes (first (decode_checks s bytes room) (value (decoded s l bytes))))

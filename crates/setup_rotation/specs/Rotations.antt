-- This is the rotation that a setup has, and its inverse: the Hadamard rotation of document 01, or the stored rotation of document 02. `entries` is what is lent for it:
-- 'The matrix stands where the signs stood'. Assumes nothing.
use Rattle.std.specs.Prelude.{ℕ, List, length, Float}
use Rattle.error.specs.Answer.{Answer, value, Check, first}
use Rattle.rotation.specs.Checks.{rotation_checks}
use Rattle.rotation.specs.Rotation.{rotated, unrotated}
use Rattle.rotation_stored.specs.Checks.{stored_checks}
use Rattle.rotation_stored.specs.Stored.{stored_rotated, stored_unrotated}
use Rattle.setup.specs.declared.Setup.{Setup}
use Rattle.setup.specs.Setups.{by_rotation}

-- These are the values rotated, and rotated back.
abbrev pub rotated_by : Setup → List Float → List Float → List Float
rotated_by s entries xs = by_rotation s.kind (rotated s.dim entries xs) (stored_rotated s.dim entries xs)

abbrev pub unrotated_by : Setup → List Float → List Float → List Float
unrotated_by s entries ys = by_rotation s.kind (unrotated s.dim entries ys) (stored_unrotated s.dim entries ys)

-- These are the checks of a call of either, where the input is `long` values and the output has `room`.
abbrev pub turn_checks : Setup → List Float → ℕ → ℕ → List Check
turn_checks s entries long room = by_rotation s.kind (rotation_checks s.dim entries long room) (stored_checks s.dim entries long room)

-- These are the answers of the two calls.
unfoldable pub rotate_of : Setup → List Float → List Float → ℕ → Answer (List Float)
rotate_of s entries xs room = first (turn_checks s entries (length xs) room) (value (rotated_by s entries xs))

unfoldable pub rotate_back_of : Setup → List Float → List Float → ℕ → Answer (List Float)
rotate_back_of s entries ys room = first (turn_checks s entries (length ys) room) (value (unrotated_by s entries ys))

-- These are the checks of a setup's scalars, in document 01's order: 'Setup: 2, 3, 1, 8, 4, ..', where document 02 has '26 when a stored rotation's dimension exceeds
-- 512, in the place of 4.' Those of the tables lent beside them follow in `setup_tables`. Assumes nothing.
use Rattle.std.specs.Prelude.{ℕ, Bool, false, ◌||◌, List, [], ◌∷◌, ◌==◌, nat_lt}
use Rattle.error.specs.Answer.{Check, check}
use Rattle.rotation.specs.Checks.{wrong_zero_dimension, wrong_odd_dimension, bad_power}
use Rattle.rotation_stored.specs.Checks.{bad_stored}
use Rattle.setup.specs.declared.Setup.{Setup}
use Rattle.setup.specs.declared.TurboMode.{TurboMode}
use Rattle.setup.specs.declared.RotationKind.{RotationKind}
use Rattle.setup.specs.Setups.{by_mode, by_rotation}

-- '1: bits outside 1..16, or total bits below 2 in residual mode.'
abbrev pub bad_total_bits : Setup → Bool
bad_total_bits s = nat_lt s.bits (by_mode s.mode 1 2) || nat_lt 16 s.bits

-- '1: .. Place: the bits.'
abbrev pub wrong_total_bits : Setup → Check
wrong_total_bits s = check (bad_total_bits s) 1 s.bits

-- '8: in residual mode, projections 0 or above 4,096.' The rule is one for a setup and for a record.
abbrev pub bad_projections : TurboMode → ℕ → Bool
bad_projections mode m = by_mode mode false (m == 0 || nat_lt 4096 m)

-- '8: .. Place: the count.'
abbrev pub wrong_projections : TurboMode → ℕ → Check
wrong_projections mode m = check (bad_projections mode m) 8 m

-- The Hadamard rotation takes a power of two up to 4,096, and a stored one 'even dimensions to 512' (document 02).
abbrev pub bad_rotation_dimension : RotationKind → ℕ → Bool
bad_rotation_dimension kind n = by_rotation kind (bad_power n) (bad_stored n)

-- '4 is left to setups with Hadamard signs', at the dimension, and a stored rotation has '26 .. in the place of 4' (document 02), at 0.
abbrev pub wrong_rotation_dimension : RotationKind → ℕ → Check
wrong_rotation_dimension kind n = check (bad_rotation_dimension kind n) (by_rotation kind 4 26) (by_rotation kind n 0)

-- 'Setup: 2, 3, 1, 8, 4, ..': these are the checks of the scalars.
abbrev pub scalar_checks : Setup → List Check
scalar_checks s =
    wrong_zero_dimension s.dim
    ∷ wrong_odd_dimension s.dim
    ∷ wrong_total_bits s
    ∷ wrong_projections s.mode s.projections
    ∷ wrong_rotation_dimension s.kind s.dim
    ∷ []

-- The scalars of a setup come to these: its polar bits, the projections that count, and the lengths of the tables lent beside it. Assumes nothing.
use Rattle.std.specs.Prelude.{ℕ, ◌-◌, ◌*◌, ◌^◌}
use Rattle.setup.specs.declared.Setup.{Setup}
use Rattle.setup.specs.declared.TurboMode.{TurboMode}
use Rattle.setup.specs.declared.TurboMode.TheVariants.{PolarOnly, PolarWithQjl}
use Rattle.setup.specs.declared.RotationKind.{RotationKind}
use Rattle.setup.specs.declared.RotationKind.TheVariants.{FastHadamard, Stored}

-- This is the first value without residual, the second with it.
abbrev pub by_mode : {A : Type 0} → TurboMode → A → A → A
by_mode PolarOnly alone residual = alone
by_mode PolarWithQjl alone residual = residual

-- This is the first value where the rotation is the Hadamard rotation, the second where it is a stored one.
abbrev pub by_rotation : {A : Type 0} → RotationKind → A → A → A
by_rotation FastHadamard hadamard stored = hadamard
by_rotation Stored hadamard stored = stored

-- 'Polar bits are total bits, less 1 in residual mode.' Of 0 bits there are 0.
abbrev pub polar_bits_of : Setup → ℕ
polar_bits_of s = by_mode s.mode s.bits (s.bits - 1)

-- 'In `PolarOnly` m counts as 0 and the matrix is empty.'
abbrev pub counted : TurboMode → ℕ → ℕ
counted mode m = by_mode mode 0 m

abbrev pub counted_projections_of : Setup → ℕ
counted_projections_of s = counted s.mode s.projections

-- The rotation is lent 'n signs' (document 01), or a stored one's n × n matrix entries (document 02).
abbrev pub rotation_needed : Setup → ℕ
rotation_needed s = by_rotation s.kind s.dim (s.dim * s.dim)

-- 'the table has 2 × 2^polar bits entries'
abbrev pub directions_needed : Setup → ℕ
directions_needed s = 2 * 2 ^ polar_bits_of s

-- 'The matrix has m × n entries.'
abbrev pub matrix_needed : Setup → ℕ
matrix_needed s = counted_projections_of s * s.dim

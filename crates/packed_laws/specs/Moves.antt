-- This is how far the radii of a linear record lie from those that it was written from. Document 02, k): 'For every list of accepted radii below 2^127, show that
-- each radius read from its linear form lies within (max − min) / 65,535 + max / 2^22 + 2^−23 of the original, as exact numbers.' Assumes nothing.
use Rattle.std.specs.Prelude.{ℕ, ◌<◌, ◌≡◌, List, ℤ, length, get_or, Float}
use Rattle.std.specs.Float.{nan}
use Rattle.error.specs.Answer.{value, refused}
use Rattle.float.specs.Bytes.{AreFloats}
use Rattle.radius.specs.Radii.{range_of}
use Rattle.radius.specs.declared.RadiusCodecProfileV1.TheVariants.{BlockLinearU16}
use Rattle.radius_moves.specs.Moves.{BelowLimit, SmallRadii, Moved}
use Rattle.packed.specs.declared.Code.{Code}
use Rattle.packed.specs.Reading.{radii_of}
use Rattle.packed_writing.specs.Writing.{write_record_of}

pub record RecordMoves : Type 0 where
  -- A radius that is read from a record that was written linear lies so near to what was given. min and max are those of the radii that were given; that they stand
  -- in the record is `range_same` of `SameFields`.
  pub written_moved : (code : Code) (radii : List Float) (indices : List ℕ) (signs : List ℤ) (room : ℕ) (bytes : List ℕ) → AreFloats radii → BelowLimit radii
      → code.profile ≡ BlockLinearU16 → write_record_of code radii indices signs room ≡ value bytes
      → (i : ℕ) → i < length radii → Moved (range_of radii) (get_or radii i nan) (get_or (radii_of bytes) i nan)
  -- Writing accepted radii that are all below 2^127 never answers 16: none of them would read as infinite.
  pub never_16 : (code : Code) (radii : List Float) (indices : List ℕ) (signs : List ℤ) (room p : ℕ) → SmallRadii radii
      → write_record_of code radii indices signs room ≡ refused 16 p → ⊥

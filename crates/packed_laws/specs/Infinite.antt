-- A linear radius is 16 where it reads as infinite, and for nothing else. Document 01: 'A linear radius that reads as infinite is 16 in reading and in writing'.
-- That it is refused is the definitions' own (`each bad_radius 16`); here is the other way round. Assumes nothing.
use Rattle.std.specs.Prelude.{ℕ, ◌≡◌, true, false, List, ℤ, get_or, Float}
use Rattle.std.specs.Float.{nan, inf}
use Rattle.digits.specs.Digits.{AreBytes}
use Rattle.error.specs.Answer.{refused}
use Rattle.radius.specs.Firsts.{read_back}
use Rattle.radius.specs.Radii.{GoodRadii}
use Rattle.radius.specs.declared.RadiusCodecProfileV1.TheVariants.{F32, BlockLinearU16}
use Rattle.packed.specs.declared.Code.{Code}
use Rattle.packed.specs.Fields.{map_of, has_range}
use Rattle.packed.specs.Reading.{radii_of, read_record_of}
use Rattle.packed_writing.specs.Writing.{write_record_of}

-- `inf false` is plus infinity: no NaN, and not below zero. Past the end `get_or` gives NaN, so that the place is one of the radii's.
pub record Infinite : Type 0 where
  -- Refusal 16 in reading a linear record names a radius that reads as infinite.
  pub read_infinite : (bytes : List ℕ) (p : ℕ) → AreBytes bytes
      → has_range (map_of bytes) ≡ true → read_record_of bytes ≡ refused 16 p → get_or (radii_of bytes) p nan ≡ inf false
  -- Refusal 16 in writing radii that pass as they are says that the profile is linear, and that the radius would be read back as infinite.
  pub write_linear : (code : Code) (radii : List Float) (indices : List ℕ) (signs : List ℤ) (room p : ℕ) → GoodRadii radii
      → write_record_of code radii indices signs room ≡ refused 16 p → code.profile ≡ BlockLinearU16
  pub write_infinite : (code : Code) (radii : List Float) (indices : List ℕ) (signs : List ℤ) (room p : ℕ) → GoodRadii radii
      → write_record_of code radii indices signs room ≡ refused 16 p → get_or (read_back BlockLinearU16 radii) p nan ≡ inf false
  -- So F32 radii that pass as they are never answer 16.
  pub write_floats : (code : Code) (radii : List Float) (indices : List ℕ) (signs : List ℤ) (room p : ℕ) → GoodRadii radii
      → code.profile ≡ F32 → write_record_of code radii indices signs room ≡ refused 16 p → ⊥

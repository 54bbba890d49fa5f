-- What was written reads back, and the reader accepts it. The one condition beside the writer's own checks is that the radii and the norm are f32. Assumes nothing.
use Prim.Native.Nat.{ℕ}
use mathlib.Core.Path.{◌≡◌, ap, ◌∙◌}
use mathlib.Core.List.{List}
use lib.IntN.{ℤ}
use lib.Dec.{T}
use lib.Ieee.{Float, binary32, fits}
use Rattle.error.specs.Answer.{value}
use Rattle.radius.specs.declared.RadiusCodecProfileV1.{RadiusCodecProfileV1}
use Rattle.radius.specs.declared.RadiusCodecProfileV1.TheVariants.{F32}
use Rattle.radius.proofs.RoundTrip.{Floats}
use Rattle.packed.specs.declared.Code.{Code}
use Rattle.packed.specs.Layout.{header_of}
use Rattle.packed.specs.Reading.{radii_of, indices_of, signs_of, read_record_of}
use Rattle.packed_size.specs.Size.{norm_value}
use Rattle.packed_writing.specs.Writing.{write_record_of}
use Rattle.radius.specs.Firsts.{read_back}
use Rattle.packed.proofs.Accepted.{accepted_reads}
use Rattle.packed_laws.specs.RoundTrips.{header_for, SameFields}
use Rattle.packed_laws.proofs.Inputs.{written}
use Rattle.packed_laws.proofs.Fields.{map-written, mode-written, profile-written, dim-written, bits-written, projections-written, bounds-written, given-written, norm-written, length-written, header-written}
use Rattle.packed_laws.proofs.Payloads.{floats-read_back, radii-written, indices_written, signs_written}
use Rattle.packed_laws.proofs.WrittenAccepted.{accepted-written}

module _ (code : Code) (radii : List Float) (indices : List ℕ) (signs : List ℤ) (room : ℕ) {bytes : List ℕ} (told : write_record_of code radii indices signs room ≡ value bytes) where
  -- the indices are read back as they were written
  pub written-indices : indices_of bytes ≡ indices
  written-indices = indices_written (written code radii indices signs room told)

  -- the signs are read back as they were written
  pub written-signs : signs_of bytes ≡ signs
  written-signs = signs_written (written code radii indices signs room told)

  -- the radii are read back as the writer said that they would be
  pub written-radii : Floats radii → radii_of bytes ≡ read_back code.profile radii
  written-radii floats = radii-written (written code radii indices signs room told) floats

  module _ (floats : Floats radii) (norm_fits : T (fits binary32 (norm_value code.norm))) where
    -- the header is read back as it was written, and the record fills the room that was lent
    pub written-fields : SameFields bytes code radii room
    written-fields =
        let w = written code radii indices signs room told in
        record {
          map_same = map-written w;
          mode_same = mode-written w;
          profile_same = profile-written w;
          dim_same = dim-written w;
          bits_same = bits-written w;
          projections_same = projections-written w;
          range_same = bounds-written w floats;
          given_same = given-written w;
          norm_same = norm-written w norm_fits;
          length_same = length-written w;
        }

    -- a writer never writes a record that its reader refuses
    pub written-accepted : read_record_of bytes ≡ value (header_of bytes)
    written-accepted = accepted_reads bytes (accepted-written (written code radii indices signs room told) floats norm_fits)

    -- the header that the reader gives holds what was written
    pub written-header : read_record_of bytes ≡ value (header_for code radii)
    written-header = written-accepted ∙ ap value (header-written (written code radii indices signs room told) floats norm_fits)

-- F32 radii are read back as they were written, to the last bit
pub written-floats : (code : Code) (radii : List Float) (indices : List ℕ) (signs : List ℤ) (room : ℕ) {bytes : List ℕ}
    → code.profile ≡ F32 → write_record_of code radii indices signs room ≡ value bytes → Floats radii → radii_of bytes ≡ radii
written-floats code radii indices signs room plain told floats =
    written-radii code radii indices signs room told floats
    ∙ ap (λ (profile : RadiusCodecProfileV1). read_back profile radii) plain
    ∙ floats-read_back radii floats

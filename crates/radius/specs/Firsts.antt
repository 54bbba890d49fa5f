-- These say which radius of a list or of a payload is the first that is refused: as it is, as it is read, or as it would be read back. Document 01: '16: a radius
-- is NaN, infinite or below zero. Place: its index.' Where none is refused, the answer is how many there are; of BlockLogU8, which has no radii here, it is 0.
-- Assumes nothing.
use Rattle.std.specs.Prelude.{ℕ, ◌/◌, List, length, Float}
use Rattle.error.specs.Answer.{place}
use Rattle.radius.specs.Codec.{width_of, range_for, payload_for, radii_for}
use Rattle.radius.specs.Radii.{bad_radius}
use Rattle.radius.specs.declared.Range.{Range}
use Rattle.radius.specs.declared.RadiusCodecProfileV1.{RadiusCodecProfileV1}

-- This is the place in a list of radii.
abbrev pub first_bad_radius_of : List Float → ℕ
first_bad_radius_of radii = place bad_radius radii

-- This is the place among the radii that the payload holds whole, as they are read.
unfoldable pub first_bad_payload_of : List ℕ → RadiusCodecProfileV1 → Range → ℕ
first_bad_payload_of payload profile range = place bad_radius (radii_for profile (length payload / width_of profile) range payload)

-- These are the radii as they would be read back from the bytes and the range that they are compressed into.
unfoldable pub read_back : RadiusCodecProfileV1 → List Float → List Float
read_back profile radii = radii_for profile (length radii) (range_for profile radii) (payload_for profile radii)

-- 'A linear radius that reads as infinite is 16 in reading and in writing': this is the place among radii that are to be written.
unfoldable pub first_bad_read_back_of : List Float → RadiusCodecProfileV1 → ℕ
first_bad_read_back_of radii profile = place bad_radius (read_back profile radii)

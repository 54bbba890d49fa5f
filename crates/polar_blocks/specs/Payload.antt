-- These are the polar sum and the pairs of a decoded code by the bytes of a record: radii and indices are what two payloads hold. Where profile, bits or a length do
-- not fit, or a radius is refused, there is no such sum, and the caller finds otherwise what to answer. Assumes nothing.
use Rattle.std.specs.Prelude.{ℕ, ◌*◌, ◌/◌, ◌%◌, ◌^◌, Bool, not, cond, ◌&&◌, List, leb, eqb, length, Float, None, Option, Some}
use Rattle.error.specs.Answer.{clear}
use Rattle.bitpack.specs.Padding.{bytes_for}
use Rattle.bitpack.specs.Packing.{indices_in}
use Rattle.radius.specs.Radii.{bad_radius}
use Rattle.radius.specs.Codec.{bad_profile, width_of, radii_for}
use Rattle.radius.specs.declared.Range.{Range}
use Rattle.radius.specs.declared.RadiusCodecProfileV1.{RadiusCodecProfileV1}
use Rattle.polar.specs.Polar.{polar_sum_of, decoded_pairs}

-- Under a profile and bits that a record may have, two payloads hold the radii and the indices of so many pairs, at most as many as a record has: the first just these,
-- the second these and perhaps more.
unfoldable pub fits_payload : RadiusCodecProfileV1 → List ℕ → List ℕ → ℕ → ℕ → Bool
fits_payload profile radii indices bits pairs =
    leb pairs 2048
    && leb 1 bits
    && leb bits 16
    && not (bad_profile profile)
    && eqb (length radii) (width_of profile * pairs)
    && leb (bytes_for (pairs * bits)) (length indices)

-- The rotated query has two entries for each pair, and the table a direction for each index.
abbrev pub long_enough : List Float → List Float → ℕ → ℕ → Bool
long_enough directions rotated bits pairs = leb pairs (length rotated / 2) && leb (2 ^ bits) (length directions / 2)

-- This is what `payload_sum` answers: the polar sum where everything fits and no radius is refused.
unfoldable pub payload_sum_of : List Float → List Float → RadiusCodecProfileV1 → Range → List ℕ → List ℕ → ℕ → ℕ → Option Float
payload_sum_of directions rotated profile range radii indices bits pairs =
    cond
    (fits_payload profile radii indices bits pairs && long_enough directions rotated bits pairs && clear bad_radius (radii_for profile pairs range radii))
    (Some (polar_sum_of rotated directions (indices_in bits pairs indices) (radii_for profile pairs range radii)))
    None

-- ---- the pairs of a decoded code
-- The payloads hold what an output of `room` floats is made of, two for each pair.
abbrev pub fits_pairs : RadiusCodecProfileV1 → List ℕ → List ℕ → ℕ → ℕ → Bool
fits_pairs profile radii indices bits room = eqb (room % 2) 0 && fits_payload profile radii indices bits (room / 2)

-- This is what `payload_pairs` leaves in an output that held `out`: the decoded entries, whatever the radii, or `out` where a payload does not fit.
unfoldable pub payload_pairs_of : List Float → RadiusCodecProfileV1 → Range → List ℕ → List ℕ → ℕ → List Float → List Float
payload_pairs_of directions profile range radii indices bits out =
    let pairs = length out / 2 in
    cond
    (fits_pairs profile radii indices bits (length out))
    (decoded_pairs directions (indices_in bits pairs indices) (radii_for profile pairs range radii))
    out

-- What a payload's sum tells its caller, and what makes payloads fit. Assumes nothing.
use Prim.Native.Nat.{ℕ, ◌*◌, ◌/◌, ◌%◌, ◌≤◌}
use mathlib.Core.Path.{◌≡◌, refl}
use mathlib.Core.Bool.{Bool, true, false, cond, ◌&&◌}
use mathlib.Core.List.{List}
use native.Mathlib.Omega.{arith}
use borrow.Author.Tests.{le-leb, eq-eqb}
use lib.ListN.{length}
use lib.Ieee.{Float}
use Rattle.std.specs.Prelude.{None, Some}
use Rattle.error.specs.Answer.{clear}
use Rattle.error.proofs.Chains.{and-true}
use Rattle.bitpack.specs.Padding.{bytes_for}
use Rattle.bitpack.specs.Packing.{indices_in}
use Rattle.radius.specs.Radii.{bad_radius}
use Rattle.radius.specs.Codec.{bad_profile, width_of, radii_for}
use Rattle.radius.specs.declared.Range.{Range}
use Rattle.radius.specs.declared.RadiusCodecProfileV1.{RadiusCodecProfileV1}
use Rattle.polar.specs.Polar.{polar_sum_of, decoded_pairs}
use Rattle.polar_blocks.specs.Payload.{fits_payload, long_enough, payload_sum_of, payload_pairs_of}

-- a sum is the polar sum of what the payloads hold, and no radius is refused
pub sum_told : (directions rotated : List Float) (profile : RadiusCodecProfileV1) (range : Range) (radii indices : List ℕ) (bits pairs : ℕ) {s : Float} → Some s ≡ payload_sum_of directions rotated profile range radii indices bits pairs
    → (s ≡ polar_sum_of rotated directions (indices_in bits pairs indices) (radii_for profile pairs range radii)) × (clear bad_radius (radii_for profile pairs range radii) ≡ true)
unfolding payload_sum_of
sum_told directions rotated profile range radii indices bits pairs {s} e =
    let t = split (fits_payload profile radii indices bits pairs && long_enough directions rotated bits pairs && clear bad_radius (radii_for profile pairs range radii)) _ e in
    (t.0, (and-true (fits_payload profile radii indices bits pairs && long_enough directions rotated bits pairs) _ t.1).1)
  where
    split : (b : Bool) (x : Float) → Some s ≡ cond b (Some x) None → (s ≡ x) × (b ≡ true)
    split true x f = (cc, refl)
    split false x f = let z : ◌≡◌ {A = ℕ} 0 1 = cc in absurd (omega arith)

-- payloads of the right lengths fit
pub fits-made : (profile : RadiusCodecProfileV1) (radii indices : List ℕ) (bits pairs : ℕ) → pairs ≤ 2048 → 1 ≤ bits → bits ≤ 16 → bad_profile profile ≡ false → length radii ≡ width_of profile * pairs → bytes_for (pairs * bits) ≤ length indices
    → fits_payload profile radii indices bits pairs ≡ true
unfolding fits_payload
fits-made profile radii indices bits pairs few wide narrow known sized enough = rw (le-leb pairs 2048 few, le-leb 1 bits wide, le-leb bits 16 narrow, known, eq-eqb _ _ sized, le-leb _ _ enough)

-- and an output of two floats for each pair gets them all
pub pairs-fitting : (directions : List Float) (profile : RadiusCodecProfileV1) (range : Range) (radii indices : List ℕ) (bits pairs : ℕ) (out : List Float) → length out ≡ 2 * pairs → fits_payload profile radii indices bits pairs ≡ true
    → payload_pairs_of directions profile range radii indices bits out ≡ decoded_pairs directions (indices_in bits pairs indices) (radii_for profile pairs range radii)
unfolding payload_pairs_of
pairs-fitting directions profile range radii indices bits pairs out double fits =
    let half : length out / 2 ≡ pairs = omega (arith, double) in
    let even : length out % 2 ≡ 0 = omega (arith, double) in
    rw (half, even, fits)

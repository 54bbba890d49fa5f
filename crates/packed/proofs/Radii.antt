-- What scoring needs of the values that an accepted record holds: every radius as read is finite, no NaN, not below zero and an f32, and the norm is an f32.
-- Every index is below 2^bits, and every sign is −1 or 1. Assumes nothing.
use Prim.Native.Nat.{ℕ, ◌^◌, ◌<◌}
use mathlib.Core.Path.{◌≡◌, sym, ◌∙◌, subst}
use mathlib.Core.Bool.{Bool, true, false, cond}
use mathlib.Core.List.{List, [], ◌∷◌}
use lib.Dec.{T}
use lib.IntN.{pos}
use lib.ListN.{length, get_or, length-map}
use lib.Pow.{pow_pos}
use lib.Ieee.{Float, nan, binary32, fits, is_nan, lt}
use lib.Ieee.Scale.{finite}
use lib.Ieee.Bits.{of_bits-fits}
use lib.Ieee.Fits.{add-fits}
use Rattle.float.specs.Bytes.{of_le_bytes}
use Rattle.digits.specs.Digits.{number, digits}
use Rattle.digits.proofs.Laws.{Below, length_digits, digits-below}
use Rattle.bitpack.specs.Signs.{sign_of_bit, bad_sketch_sign}
use Rattle.bitpack.proofs.RoundTrip.{bits-good}
use Rattle.float.specs.Constants.{pos_zero, one}
use Rattle.radius.proofs.Radii.{radius-finite, radius-not-nan, radius-not_below}
use Rattle.radius.specs.Codec.{radii_for}
use Rattle.radius.specs.Linear.{radius_of, linear_radius}
use Rattle.radius.specs.declared.Range.{Range}
use Rattle.radius.specs.declared.RadiusCodecProfileV1.TheVariants.{F32, BlockLinearU16}
use Rattle.lists.proofs.Chunks.{chunks-get_or, length-chunks}
use Rattle.packed.specs.Fields.{map_of, has_range, has_norm, float_at, bits_of, bounds_of, projections_of, norm_start, norm_of}
use Rattle.packed.specs.Layout.{pairs_of, radii_bytes, indices_bytes, signs_bytes}
use Rattle.packed.specs.Reading.{radii_of, indices_of, signs_of}
use Rattle.packed.specs.Accepted.{Accepted}

module _ (bytes : List ℕ) (a : Accepted bytes) (i : ℕ) (h : i < length (radii_of bytes)) where
  pub accepted-finite : finite (get_or (radii_of bytes) i nan) ≡ true
  accepted-finite = radius-finite (get_or (radii_of bytes) i nan) (a.radii i h)

  pub accepted-not-nan : is_nan (get_or (radii_of bytes) i nan) ≡ false
  accepted-not-nan = radius-not-nan (get_or (radii_of bytes) i nan) (a.radii i h)

  pub accepted-not_below : lt (get_or (radii_of bytes) i nan) pos_zero ≡ false
  accepted-not_below = radius-not_below (get_or (radii_of bytes) i nan) (a.radii i h)

-- whatever its bytes are, a radius as read is an f32
either-fits : (t : Bool) (count : ℕ) (range : Range) (payload : List ℕ) (i : ℕ) → i < length (radii_for (cond t BlockLinearU16 F32) count range payload) → T (fits binary32 (get_or (radii_for (cond t BlockLinearU16 F32) count range payload) i nan))
unfolding of_le_bytes linear_radius radius_of
either-fits true count range payload i h =
    let below : i < count = rw length-chunks at h in
    subst (λ (x : Float). T (fits binary32 x)) (sym (chunks-get_or (linear_radius range) 2 count i payload nan below)) (add-fits binary32 _ _)
either-fits false count range payload i h =
    let below : i < count = rw length-chunks at h in
    subst (λ (x : Float). T (fits binary32 x)) (sym (chunks-get_or of_le_bytes 4 count i payload nan below)) (of_bits-fits binary32 _)

pub radii_fit : (bytes : List ℕ) (i : ℕ) → i < length (radii_of bytes) → T (fits binary32 (get_or (radii_of bytes) i nan))
unfolding radii_of
radii_fit bytes i h = either-fits (has_range (map_of bytes)) (pairs_of bytes) (bounds_of bytes) (radii_bytes bytes) i h

-- and so is the norm
pub norm_fits : (bytes : List ℕ) → T (fits binary32 (norm_of bytes))
unfolding norm_of of_le_bytes fits
norm_fits bytes = either (has_norm (map_of bytes))
  where
    either : (t : Bool) → T (fits binary32 (cond t (float_at bytes (norm_start (map_of bytes))) (one false)))
    either true = of_bits-fits binary32 _
    either false = tt

-- ---- indices and signs

pub length-indices_of : (bytes : List ℕ) → length (indices_of bytes) ≡ pairs_of bytes
unfolding indices_of
length-indices_of bytes = length_digits (2 ^ bits_of bytes) (pairs_of bytes) (number 256 (indices_bytes bytes))

pub indices-below : (bytes : List ℕ) → Below (2 ^ bits_of bytes) (indices_of bytes)
unfolding indices_of
indices-below bytes = digits-below (2 ^ bits_of bytes) (pairs_of bytes) (number 256 (indices_bytes bytes)) (pow_pos (bits_of bytes))

pub length-signs_of : (bytes : List ℕ) → length (signs_of bytes) ≡ projections_of bytes
unfolding signs_of
length-signs_of bytes = length-map (digits 2 (projections_of bytes) (number 256 (signs_bytes bytes))) sign_of_bit ∙ length_digits 2 (projections_of bytes) (number 256 (signs_bytes bytes))

-- every sign is −1 or 1
pub signs_good : (bytes : List ℕ) (i : ℕ) → i < length (signs_of bytes) → bad_sketch_sign (get_or (signs_of bytes) i (pos 0)) ≡ false
unfolding signs_of
signs_good bytes i h = bits-good (digits 2 (projections_of bytes) (number 256 (signs_bytes bytes))) i h

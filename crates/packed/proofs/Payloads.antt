-- What the checks of the whole length, the range, the norm and the payloads answer, case by case, as the code comes to them. Assumes nothing.
use Prim.Native.Nat.{ℕ, ◌≤◌, ◌<◌}
use mathlib.Core.Path.{◌≡◌, sym, ◌∙◌}
use mathlib.Core.Bool.{Bool, true, false, cond}
use mathlib.Core.List.{List, [], ◌∷◌}
use borrow.Author.Tests.{lt-ltb, le-ltb, eq-eqb, ne_eqb}
use lib.ListN.{length}
use Rattle.error.specs.Answer.{refused, place, first, accepted}
use Rattle.bitpack.specs.Padding.{bytes_for, wrong_padding, validate_padding_zero_of}
use Rattle.error.proofs.Chains.{append-refused, append-passed}
use Rattle.float.specs.Bytes.{of_le_bytes}
use Rattle.radius.specs.Codec.{radii_for}
use Rattle.radius.specs.Linear.{linear_radius}
use Rattle.radius.specs.declared.Range.{Range}
use Rattle.radius.specs.declared.RadiusCodecProfileV1.TheVariants.{F32, BlockLinearU16}
use Rattle.lists.proofs.Chunks.{length-chunks}
use Rattle.radius.specs.Radii.{bad_radius}
use Rattle.packed.specs.Fields.{map_of, has_range, profile_of, bounds_of, projections_of, norm_of}
use Rattle.packed.specs.Layout.{pairs_of, indices_used, record_length, radii_bytes, indices_bytes, signs_bytes}
use Rattle.packed.specs.Radii.{bad_bounds_for}
use Rattle.packed.specs.Reading.{radii_of, padding_checks}
use Rattle.packed.specs.Peeking.{frame_checks, radii_checks}
use Rattle.packed.proofs.Parts.{length-indices, length-signs}

-- as many radii as pairs
length-either : (t : Bool) (count : ℕ) (range : Range) (payload : List ℕ) → length (radii_for (cond t BlockLinearU16 F32) count range payload) ≡ count
length-either true count range payload = length-chunks (linear_radius range) 2 count payload
length-either false count range payload = length-chunks of_le_bytes 4 count payload

pub length-radii_of : (bytes : List ℕ) → length (radii_of bytes) ≡ pairs_of bytes
unfolding radii_of
length-radii_of bytes = length-either (has_range (map_of bytes)) (pairs_of bytes) (bounds_of bytes) (radii_bytes bytes)

-- of a payload of the right length only the padding is left to say
pub padding-only : (packed : List ℕ) (used : ℕ) → length packed ≡ bytes_for used → validate_padding_zero_of packed used ≡ first (wrong_padding packed used ∷ []) accepted
unfolding validate_padding_zero_of
padding-only packed used h = simp (eq-eqb _ _ h)

module _ (bytes : List ℕ) where
  -- ---- the whole length, the range and the norm

  pub frame-size : (length bytes ≡ record_length bytes → ⊥) → first (frame_checks bytes) accepted ≡ refused 13 (length bytes)
  frame-size h = simp (ne_eqb _ _ h)

  module _ (sized : length bytes ≡ record_length bytes) where
    pub frame-bounds : bad_bounds_for (profile_of (map_of bytes)) (bounds_of bytes) ≡ true → first (frame_checks bytes) accepted ≡ refused 17 0
    frame-bounds h = simp (eq-eqb _ _ sized, h)

    module _ (bounds : bad_bounds_for (profile_of (map_of bytes)) (bounds_of bytes) ≡ false) where
      pub frame-norm : bad_radius (norm_of bytes) ≡ true → first (frame_checks bytes) accepted ≡ refused 23 0
      frame-norm h = simp (eq-eqb _ _ sized, bounds, h)

      pub frame-sound : bad_radius (norm_of bytes) ≡ false → first (frame_checks bytes) accepted ≡ accepted
      frame-sound h = simp (eq-eqb _ _ sized, bounds, h)

  -- ---- the radii

  module _ {bad : ℕ} (found : bad ≡ place bad_radius (radii_of bytes)) where
    pub payload-radius : bad < pairs_of bytes → first (radii_checks bytes) accepted ≡ refused 16 bad
    payload-radius h = rw (← found, length-radii_of, lt-ltb _ _ h)

    pub payload-rest : pairs_of bytes ≤ bad → first (radii_checks bytes) accepted ≡ first (padding_checks bytes) accepted
    payload-rest all = rw (← found, length-radii_of, le-ltb _ _ all)

  module _ (sized : length bytes ≡ record_length bytes) where
    -- ---- the padding

    pub padding-indices : {n p : ℕ} → validate_padding_zero_of (indices_bytes bytes) (indices_used bytes) ≡ refused n p → first (padding_checks bytes) accepted ≡ refused n p
    padding-indices e =
        append-refused (wrong_padding (indices_bytes bytes) (indices_used bytes) ∷ []) (wrong_padding (signs_bytes bytes) (projections_of bytes) ∷ []) tt accepted
        (sym (padding-only (indices_bytes bytes) (indices_used bytes) (length-indices bytes sized)) ∙ e)

    pub padding-signs : validate_padding_zero_of (indices_bytes bytes) (indices_used bytes) ≡ accepted → first (padding_checks bytes) accepted ≡ validate_padding_zero_of (signs_bytes bytes) (projections_of bytes)
    padding-signs e =
        append-passed (wrong_padding (indices_bytes bytes) (indices_used bytes) ∷ []) (wrong_padding (signs_bytes bytes) (projections_of bytes) ∷ []) tt accepted
        (sym (padding-only (indices_bytes bytes) (indices_used bytes) (length-indices bytes sized)) ∙ e)
        ∙ sym (padding-only (signs_bytes bytes) (projections_of bytes) (length-signs bytes sized))

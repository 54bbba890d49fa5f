-- What decompress and restore answer by their first checks: their refusal, or what is left where they have passed; and what a profile and a length that passed
-- are. Assumes nothing.
use Prim.Native.Nat.{ℕ, ◌*◌}
use mathlib.Core.Path.{◌≡◌, sym, ◌∙◌}
use mathlib.Core.Bool.{false}
use mathlib.Core.List.{List, [], ◌∷◌}
use borrow.Author.Tests.{eqb-true, not-false}
use lib.ListN.{length}
use Rattle.error.specs.Answer.{value, refused, first, accepted}
use Rattle.error.specs.Checks.{wrong_room}
use Rattle.error.proofs.Chains.{first-all, append_left, append-refused, append-passed}
use Rattle.radius.specs.Codec.{bad_profile, width_of, wrong_content, radii_for, decompress_of, restore_of}
use Rattle.radius.specs.declared.Range.{Range}
use Rattle.radius.specs.declared.RadiusCodecProfileV1.{RadiusCodecProfileV1}
use Rattle.radius_reading.specs.Inner.{profile_checks, content_checks}

-- ---- 18 or 13 is the answer of all

module _ (profile : RadiusCodecProfileV1) (count : ℕ) (range : Range) (payload : List ℕ) {n p : ℕ} (unfit : first (profile_checks profile count payload) accepted ≡ refused n p) where
  pub unfit-content : first (content_checks profile count range payload) accepted ≡ refused n p
  unfit-content = append-refused (profile_checks profile count payload) (wrong_content profile count range payload ∷ []) tt accepted unfit

  pub unfit-restore : (room : ℕ) → restore_of profile count range payload room ≡ refused n p
  unfolding restore_of
  unfit-restore room = append-refused (profile_checks profile count payload) (wrong_room room count ∷ []) tt (value (radii_for profile count range payload)) unfit

-- ---- past 18 and 13

module _ (profile : RadiusCodecProfileV1) (count : ℕ) (payload : List ℕ) (fit : first (profile_checks profile count payload) accepted ≡ accepted) where
  pub fit-known : bad_profile profile ≡ false
  fit-known = (first-all (profile_checks profile count payload) accepted fit).0

  pub fit_length : length payload ≡ width_of profile * count
  fit_length = eqb-true _ _ (not-false _ (first-all (profile_checks profile count payload) accepted fit).1.0)

  pub fit-content : (range : Range) → first (content_checks profile count range payload) accepted ≡ first (wrong_content profile count range payload ∷ []) accepted
  fit-content range = append-passed (profile_checks profile count payload) (wrong_content profile count range payload ∷ []) tt accepted fit

  pub fit-restore : (range : Range) (room : ℕ) → restore_of profile count range payload room ≡ first (wrong_room room count ∷ []) (value (radii_for profile count range payload))
  unfolding restore_of
  fit-restore range room = append-passed (profile_checks profile count payload) (wrong_room room count ∷ []) tt (value (radii_for profile count range payload)) fit

-- ---- decompress: a refusal of its checks, or the answer of restore

module _ (profile : RadiusCodecProfileV1) (count : ℕ) (range : Range) (payload : List ℕ) (room : ℕ) where
  pub content-refused : {n p : ℕ} → first (content_checks profile count range payload) accepted ≡ refused n p → decompress_of profile count range payload room ≡ refused n p
  unfolding decompress_of
  content-refused bad = append-refused (content_checks profile count range payload) (wrong_room room count ∷ []) tt (value (radii_for profile count range payload)) bad

  pub content-restore : first (content_checks profile count range payload) accepted ≡ accepted → decompress_of profile count range payload room ≡ restore_of profile count range payload room
  unfolding decompress_of
  content-restore good =
      append-passed (content_checks profile count range payload) (wrong_room room count ∷ []) tt (value (radii_for profile count range payload)) good
      ∙ sym (fit-restore profile count payload (append_left (profile_checks profile count payload) (wrong_content profile count range payload ∷ []) accepted good) range room)

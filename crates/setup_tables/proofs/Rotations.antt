-- What is lent for the rotation, judged by the rotation that a setup has: signs, or the entries of a matrix. Assumes nothing.
use Prim.Native.Nat.{ℕ, ◌≤◌, ◌<◌}
use mathlib.Core.Path.{◌≡◌, sym, ap, ◌∙◌}
use mathlib.Core.Bool.{Bool}
use mathlib.Core.List.{List, [], ◌∷◌}
use lib.ListN.{length}
use lib.Ieee.{Float}
use Rattle.error.specs.Answer.{refused, first, place, each, accepted}
use Rattle.error.specs.Checks.{bad_value}
use Rattle.error.proofs.Places.{each-offends, each-passes}
use Rattle.rotation.specs.Checks.{bad_sign}
use Rattle.setup.specs.declared.RotationKind.{RotationKind}
use Rattle.setup.specs.declared.RotationKind.TheVariants.{FastHadamard, Stored}
use Rattle.setup_tables.specs.Checks.{bad_rotation_entry, wrong_rotation_entry}

module _ (kind : RotationKind) (xs : List Float) {i : ℕ} where
  offends : (bad : Float → Bool) (n : ℕ) → i ≡ place bad xs → i < length xs → first (each bad n xs ∷ []) accepted ≡ refused n i
  offends bad n p l = simp (each-offends bad xs p l, p)

  pass : (bad : Float → Bool) (n : ℕ) → i ≡ place bad xs → length xs ≤ i → first (each bad n xs ∷ []) accepted ≡ accepted
  pass bad n p l = simp (each-passes bad xs p l)

  module _ (e : kind ≡ FastHadamard) (p : i ≡ place bad_sign xs) where
    pub sign-offends : i < length xs → refused 10 i ≡ first (wrong_rotation_entry kind xs ∷ []) accepted
    sign-offends l = sym (ap (λ (k : RotationKind). first (wrong_rotation_entry k xs ∷ []) accepted) e ∙ offends (bad_rotation_entry FastHadamard) 10 p l)

    pub signs-pass : length xs ≤ i → accepted ≡ first (wrong_rotation_entry kind xs ∷ []) accepted
    signs-pass l = sym (ap (λ (k : RotationKind). first (wrong_rotation_entry k xs ∷ []) accepted) e ∙ pass (bad_rotation_entry FastHadamard) 10 p l)

  module _ (e : kind ≡ Stored) (p : i ≡ place bad_value xs) where
    pub entry-offends : i < length xs → refused 9 i ≡ first (wrong_rotation_entry kind xs ∷ []) accepted
    entry-offends l = sym (ap (λ (k : RotationKind). first (wrong_rotation_entry k xs ∷ []) accepted) e ∙ offends (bad_rotation_entry Stored) 9 p l)

    pub entries-pass : length xs ≤ i → accepted ≡ first (wrong_rotation_entry kind xs ∷ []) accepted
    entries-pass l = sym (ap (λ (k : RotationKind). first (wrong_rotation_entry k xs ∷ []) accepted) e ∙ pass (bad_rotation_entry Stored) 9 p l)

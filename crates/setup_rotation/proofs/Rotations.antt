-- The rotation that a setup has, rotation by rotation: what a call answers, and how many values it gives. Assumes nothing.
use Prim.Native.Nat.{ℕ, ◌*◌}
use mathlib.Core.Path.{◌≡◌, refl, sym, ap, ◌∙◌}
use mathlib.Core.List.{List}
use lib.Count.{count_trailing_zeros}
use lib.ListN.{length, length-map}
use lib.Ieee.{Float, binary32, add, sub, mul}
use Rattle.error.specs.Answer.{value, first, accepted}
use Rattle.error.proofs.Chains.{first-passed}
use Rattle.float.specs.Constants.{pos_zero}
use Rattle.rounding.specs.Sums.{products}
use Rattle.rounding.specs.Butterfly.{stages}
use Rattle.rounding.proofs.Lists.{length-products}
use Rattle.rounding.proofs.Butterflies.{length-stages}
use Rattle.rotation.specs.Checks.{rotation_checks}
use Rattle.rotation.specs.Rotation.{inverse_root, scaled, hadamard_of, rotated, unrotated, apply_of, apply_inverse_of}
use Rattle.rotation_stored.specs.Checks.{stored_checks}
use Rattle.rotation_stored.specs.Stored.{stored_rotated, stored_unrotated, stored_apply_of, stored_apply_inverse_of}
use Rattle.rotation_stored.proofs.Accepted.{length-stored}
use Rattle.setup.specs.declared.Setup.{Setup}
use Rattle.setup.specs.declared.RotationKind.{RotationKind}
use Rattle.setup.specs.declared.RotationKind.TheVariants.{FastHadamard, Stored}
use Rattle.setup.specs.Setups.{by_rotation, rotation_needed}
use Rattle.setup_rotation.specs.Rotations.{rotated_by, unrotated_by, turn_checks, rotate_of, rotate_back_of}

module _ (s : Setup) (entries xs : List Float) (room : ℕ) where
  -- the answer under each rotation is the answer of its call
  rotates : (k : RotationKind) → by_rotation k (apply_of s.dim entries xs room) (stored_apply_of s.dim entries xs room)
      ≡ first (by_rotation k (rotation_checks s.dim entries (length xs) room) (stored_checks s.dim entries (length xs) room)) (value (by_rotation k (rotated s.dim entries xs) (stored_rotated s.dim entries xs)))
  unfolding apply_of stored_apply_of
  rotates FastHadamard = refl
  rotates Stored = refl

  pub rotate-at : {k : RotationKind} → s.kind ≡ k → by_rotation k (apply_of s.dim entries xs room) (stored_apply_of s.dim entries xs room) ≡ rotate_of s entries xs room
  unfolding rotate_of
  rotate-at e = ap (λ (k : RotationKind). by_rotation k (apply_of s.dim entries xs room) (stored_apply_of s.dim entries xs room)) (sym e) ∙ rotates s.kind

  rotates-back : (k : RotationKind) → by_rotation k (apply_inverse_of s.dim entries xs room) (stored_apply_inverse_of s.dim entries xs room)
      ≡ first (by_rotation k (rotation_checks s.dim entries (length xs) room) (stored_checks s.dim entries (length xs) room)) (value (by_rotation k (unrotated s.dim entries xs) (stored_unrotated s.dim entries xs)))
  unfolding apply_inverse_of stored_apply_inverse_of
  rotates-back FastHadamard = refl
  rotates-back Stored = refl

  pub rotate_back-at : {k : RotationKind} → s.kind ≡ k
      → by_rotation k (apply_inverse_of s.dim entries xs room) (stored_apply_inverse_of s.dim entries xs room) ≡ rotate_back_of s entries xs room
  unfolding rotate_back_of
  rotate_back-at e = ap (λ (k : RotationKind). by_rotation k (apply_inverse_of s.dim entries xs room) (stored_apply_inverse_of s.dim entries xs room)) (sym e) ∙ rotates-back s.kind

  -- where nothing offends, the values are answered
  pub rotate-value : first (turn_checks s entries (length xs) room) accepted ≡ accepted → rotate_of s entries xs room ≡ value (rotated_by s entries xs)
  unfolding rotate_of
  rotate-value e = first-passed (turn_checks s entries (length xs) room) _ e

  pub rotate_back-value : first (turn_checks s entries (length xs) room) accepted ≡ accepted → rotate_back_of s entries xs room ≡ value (unrotated_by s entries xs)
  unfolding rotate_back_of
  rotate_back-value e = first-passed (turn_checks s entries (length xs) room) _ e

-- ---- as many values come out as go in

length-rotated : (n : ℕ) (signs xs : List Float) → length signs ≡ length xs → length (rotated n signs xs) ≡ length xs
unfolding rotated hadamard_of scaled
length-rotated n signs xs e =
    length-map (stages (add binary32) (sub binary32) pos_zero (count_trailing_zeros 64 n) 1 (products xs signs)) (λ x. mul binary32 x (inverse_root n))
    ∙ length-stages (add binary32) (sub binary32) pos_zero (count_trailing_zeros 64 n) 1 (products xs signs)
    ∙ length-products xs signs e

module _ (s : Setup) (entries xs : List Float) (long : length xs ≡ s.dim) where
  length_at : (k : RotationKind) → length entries ≡ by_rotation k s.dim (s.dim * s.dim) → length (by_rotation k (rotated s.dim entries xs) (stored_rotated s.dim entries xs)) ≡ s.dim
  length_at FastHadamard e = length-rotated s.dim entries xs (e ∙ sym long) ∙ long
  length_at Stored e = length-stored s.dim entries xs

  pub length-rotated_by : length entries ≡ rotation_needed s → length (rotated_by s entries xs) ≡ s.dim
  length-rotated_by e = length_at s.kind e

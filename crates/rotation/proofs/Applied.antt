-- The answers of the two calls from what their check says. Assumes nothing.
use Prim.Native.Nat.{ℕ}
use mathlib.Core.Path.{◌≡◌}
use mathlib.Core.List.{List}
use lib.ListN.{length}
use lib.Ieee.{Float}
use Rattle.error.specs.Answer.{value, refused, first, accepted}
use Rattle.error.proofs.Chains.{first-passed, first-refused}
use Rattle.rotation.specs.Checks.{rotation_checks}
use Rattle.rotation.specs.Rotation.{rotated, unrotated, apply_of, apply_inverse_of}

module _ (n : ℕ) (signs xs : List Float) (room : ℕ) where
  pub applied-refused : {number place : ℕ} → first (rotation_checks n signs (length xs) room) accepted ≡ refused number place → apply_of n signs xs room ≡ refused number place
  unfolding apply_of
  applied-refused e = first-refused (rotation_checks n signs (length xs) room) _ e

  pub applied-value : first (rotation_checks n signs (length xs) room) accepted ≡ accepted → apply_of n signs xs room ≡ value (rotated n signs xs)
  unfolding apply_of
  applied-value e = first-passed (rotation_checks n signs (length xs) room) _ e

  pub inverse-refused : {number place : ℕ} → first (rotation_checks n signs (length xs) room) accepted ≡ refused number place → apply_inverse_of n signs xs room ≡ refused number place
  unfolding apply_inverse_of
  inverse-refused e = first-refused (rotation_checks n signs (length xs) room) _ e

  pub inverse-value : first (rotation_checks n signs (length xs) room) accepted ≡ accepted → apply_inverse_of n signs xs room ≡ value (unrotated n signs xs)
  unfolding apply_inverse_of
  inverse-value e = first-passed (rotation_checks n signs (length xs) room) _ e

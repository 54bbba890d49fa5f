-- The account of the rotation that a setup has is sound, and its size and bound are as they are written, rotation by rotation. Assumes nothing.
use mathlib.Core.Path.{◌≡◌, refl, sym, ap, ◌∙◌, subst}
use mathlib.Core.List.{List}
use lib.ListN.{length}
use lib.Ieee.{Float}
use Rattle.rounding.proofs.Close.{AllFit}
use Rattle.setup.specs.Lent.{Lent}
use Rattle.setup.specs.declared.Setup.{Setup}
use Rattle.setup.specs.declared.RotationKind.{RotationKind}
use Rattle.setup.specs.declared.RotationKind.TheVariants.{FastHadamard, Stored}
use Rattle.setup.specs.Setups.{by_rotation}
use Rattle.setup_tables.proofs.Accepted.{AcceptedSetup}
use Rattle.turbo_order.specs.Account.{Account, hadamard_account, stored_account}
use Rattle.turbo_order.specs.Scores.{account_of, size_by, bound_by}
use Rattle.turbo_order.specs.AsWritten.{AsWritten}
use Rattle.turbo_order.proofs.Sound.{Sound}
use Rattle.turbo_order.proofs.Hadamard.{hadamard-sound, hadamard-sizes, hadamard-bound}
use Rattle.turbo_order.proofs.Stored.{stored-sound}

module _ (s : Setup) (l : Lent) (query : List Float) where
  -- the account of a rotation that is known
  account-at : {k : RotationKind} → s.kind ≡ k → account_of s l query ≡ by_rotation k (hadamard_account s.dim l.rotation query) (stored_account s.dim l.rotation query)
  account-at e = ap (λ (k : RotationKind). by_rotation k (hadamard_account s.dim l.rotation query) (stored_account s.dim l.rotation query)) e

  module _ (accepted : AcceptedSetup s l) (query_long : length query ≡ s.dim) (rotation-fit : AllFit l.rotation) (query_fit : AllFit query) where
    sound-at : (k : RotationKind) → s.kind ≡ k → Sound s.dim (account_of s l query)
    sound-at FastHadamard e = subst (λ (a : Account). Sound s.dim a) (sym (account-at e)) (hadamard-sound s l query e accepted query_long rotation-fit query_fit)
    sound-at Stored e = subst (λ (a : Account). Sound s.dim a) (sym (account-at e)) (stored-sound s l query e accepted rotation-fit query_fit)

    pub account-sound : Sound s.dim (account_of s l query)
    account-sound = sound-at s.kind refl

pub as_written : AsWritten
unfolding size_by bound_by
as_written =
    record {
      size = λ s l query c e half. ap (λ (a : Account). size_by a s l query c) (account-at s l query e) ∙ hadamard-sizes s l query c half;
      bound = λ s l query c e half. ap (λ (a : Account). bound_by a s l query c) (account-at s l query e) ∙ hadamard-bound s l query c half;
      stored_size = λ s l query c e. ap (λ (a : Account). size_by a s l query c) (account-at s l query e);
      stored_bound = λ s l query c e. ap (λ (a : Account). bound_by a s l query c) (account-at s l query e);
    }

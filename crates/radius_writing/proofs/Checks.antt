-- What compress answers by its checks: their refusal, or what was written where they have passed; and the room that it then has. Assumes nothing.
use Prim.Native.Nat.{ℕ, ◌*◌}
use mathlib.Core.Path.{◌≡◌, sym, ap, ◌∙◌}
use mathlib.Core.List.{List}
use borrow.Author.Tests.{eqb-true, not-false}
use lib.ListN.{length}
use lib.Ieee.{Float}
use Rattle.error.specs.Answer.{value, refused, first, accepted, after}
use Rattle.error.proofs.Answers.{after-refused, after-value}
use Rattle.error.proofs.Chains.{first-passed, first-refused, first-all}
use Rattle.radius.specs.Codec.{width_of, compress_checks, range_for, payload_for, compress_range_of, compress_bytes_of}
use Rattle.radius.specs.declared.Range.{Range}
use Rattle.radius.specs.declared.RadiusCodecProfileV1.{RadiusCodecProfileV1}

pub compress-room : (radii : List Float) (profile : RadiusCodecProfileV1) (room : ℕ) → first (compress_checks radii profile room) accepted ≡ accepted → room ≡ width_of profile * length radii
compress-room radii profile room good = eqb-true _ _ (not-false _ (first-all (compress_checks radii profile room) accepted good).1.1.0)

module _ (radii : List Float) (profile : RadiusCodecProfileV1) (room : ℕ) (old : List ℕ) where
  pub compress-refused : {n p : ℕ} → first (compress_checks radii profile room) accepted ≡ refused n p → (refused n p ≡ compress_range_of radii profile room) × (old ≡ after (compress_bytes_of radii profile room) old)
  unfolding compress_range_of compress_bytes_of
  compress-refused e = (sym (first-refused (compress_checks radii profile room) _ e), sym (after-refused _ _ (first-refused (compress_checks radii profile room) _ e)))

  pub compress-value : first (compress_checks radii profile room) accepted ≡ accepted → (range : Range) (new : List ℕ) → range ≡ range_for profile radii → new ≡ payload_for profile radii → (value range ≡ compress_range_of radii profile room) × (new ≡ after (compress_bytes_of radii profile room) old)
  unfolding compress_range_of compress_bytes_of
  compress-value good range new e f = (ap value e ∙ sym (first-passed (compress_checks radii profile room) _ good), f ∙ sym (after-value _ _ (first-passed (compress_checks radii profile room) _ good)))

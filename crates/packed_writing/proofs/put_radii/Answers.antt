-- `packed_writing::put_radii` meets its contract: compressing answers a value. Assumes nothing.
use Prim.Native.Nat.{ℕ}
use mathlib.Core.Path.{◌≡◌, sym, ap, ◌∙◌}
use mathlib.Core.List.{List}
use lib.ListN.{length}
use lib.Ieee.{Float}
use Rattle.error.specs.Outcomes.{says}
use Rattle.error.specs.Answer.{Answer, value, first, accepted, after}
use Rattle.error.proofs.Chains.{first-passed, value-not-refused}
use Rattle.radius.specs.Codec.{compress_checks, range_for, payload_for, compress_range_of, compress_bytes_of}
use Rattle.radius.specs.declared.Range.{Range}
use Rattle.radius.specs.declared.RadiusCodecProfileV1.{RadiusCodecProfileV1}
use Rattle.packed_writing.proofs.put_radii.Goals as goal

value_same : {x y : Range} → value x ≡ value y → x ≡ y
value_same e = cc

module _ (radii : List Float) (profile : RadiusCodecProfileV1) (room : ℕ) (pass : first (compress_checks radii profile room) accepted ≡ accepted) where
  ranged : compress_range_of radii profile room ≡ value (range_for profile radii)
  unfolding compress_range_of
  ranged = first-passed (compress_checks radii profile room) (value (range_for profile radii)) pass

  written : compress_bytes_of radii profile room ≡ value (payload_for profile radii)
  unfolding compress_bytes_of
  written = first-passed (compress_checks radii profile room) (value (payload_for profile radii)) pass

pub returns-in-Ok : goal.returns-in-Ok
returns-in-Ok c = let a = c.args in
    let e : compress_range_of a.radii.now a.profile (length a.out.now) ≡ value (range_for a.profile a.radii.now) = ranged a.radii.now a.profile (length a.out.now) c.requires in
    let r = sym (ap says c.in-Ok.is) ∙ c.compress.ensures.said ∙ e in
    record { is = value_same r; left = c.compress.ensures.left ∙ ap (λ (b : Answer (List ℕ)). after b a.out.now) (written a.radii.now a.profile (length a.out.now) c.requires) }

pub returns-in-Err : goal.returns-in-Err
returns-in-Err c = let a = c.args in
    let e = ranged a.radii.now a.profile (length a.out.now) c.requires in
    value-not-refused (sym e ∙ sym c.compress.ensures.said ∙ ap says c.in-Err.is)

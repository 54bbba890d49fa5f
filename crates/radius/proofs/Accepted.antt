-- What an accepted input has: of radii that compress takes, or that decompress reads as F32, none is refused; the bytes and the radii are then those of the
-- definitions. Assumes nothing.
use Prim.Native.Nat.{ℕ, ◌*◌, ◌<◌}
use mathlib.Core.Path.{◌≡◌, sym}
use mathlib.Core.Bool.{false}
use mathlib.Core.List.{List, map}
use native.Mathlib.Omega.{arith}
use borrow.Author.Tests.{ltb-false, eqb-true, not-false}
use lib.ListN.{length, get_or}
use lib.Ieee.{Float, nan}
use Rattle.error.specs.Answer.{value, place}
use Rattle.error.proofs.Chains.{Passed, first-all, first-value}
use Rattle.error.proofs.Places.{place-le, place-passed}
use Rattle.float.specs.Bytes.{of_le_bytes}
use Rattle.lists.specs.Chunks.{chunks}
use Rattle.radius.specs.Radii.{bad_radius}
use Rattle.radius.specs.Codec.{compress_checks, payload_for, compress_bytes_of, decompress_checks, radii_for, decompress_of}
use Rattle.radius.specs.declared.Range.{Range}
use Rattle.radius.specs.declared.RadiusCodecProfileV1.{RadiusCodecProfileV1}
use Rattle.radius.specs.declared.RadiusCodecProfileV1.TheVariants.{F32}

-- ---- what compress accepts

module _ (radii : List Float) (profile : RadiusCodecProfileV1) (room : ℕ) (bytes : List ℕ) (made : compress_bytes_of radii profile room ≡ value bytes) where
  pub compressed-place : place bad_radius radii ≡ length radii
  unfolding compress_bytes_of
  compressed-place = let h = ltb-false (place bad_radius radii) (length radii) (first-all (compress_checks radii profile room) (value (payload_for profile radii)) made).0 in let k = place-le bad_radius radii in omega (arith, h, k)

  pub compressed-is : bytes ≡ payload_for profile radii
  unfolding compress_bytes_of
  compressed-is = sym (first-value (compress_checks radii profile room) (payload_for profile radii) made)

-- ---- what decompress reads as F32

module _ (count : ℕ) (range : Range) (payload : List ℕ) (room : ℕ) (radii : List Float) (read : decompress_of F32 count range payload room ≡ value radii) where
  -- none of its checks offends
  passed : Passed (decompress_checks F32 count range payload room)
  unfolding decompress_of
  passed = first-all (decompress_checks F32 count range payload room) (value (radii_for F32 count range payload)) read

  pub decompressed-length : length payload ≡ 4 * count
  decompressed-length = eqb-true _ _ (not-false _ passed.1.0)

  pub decompressed-is : radii ≡ map of_le_bytes (chunks 4 count payload)
  unfolding decompress_of
  decompressed-is = sym (first-value (decompress_checks F32 count range payload room) (radii_for F32 count range payload) read)

  pub decompressed-place : place bad_radius radii ≡ length radii
  decompressed-place =
      let floats = map of_le_bytes (chunks 4 count payload) in
      let h = ltb-false (place bad_radius floats) (length floats) passed.1.1.0 in
      rw decompressed-is (let k = place-le bad_radius (map of_le_bytes (chunks 4 count payload)) in omega (arith, h, k))

  pub decompressed-radius : (i : ℕ) → i < length radii → bad_radius (get_or radii i nan) ≡ false
  decompressed-radius i h = place-passed bad_radius radii nan decompressed-place i h

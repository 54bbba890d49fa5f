-- F32 radii come back unchanged from their bytes (`decompress_compress`), and their bytes from them (`compress_decompress`), for every input that is accepted.
-- Radii are f32 values: each fits binary32. Assumes nothing.
use Prim.Native.Nat.{ℕ, ◌+◌, ◌*◌, ◌≤◌, ◌<◌}
use mathlib.Core.Path.{◌≡◌, refl, sym, ap, ◌∙◌, subst}
use mathlib.Core.Bool.{Bool, not}
use mathlib.Core.List.{List, map, flat_map}
use native.Mathlib.Omega.{arith}
use borrow.Author.Tests.{le-ltb, eq-eqb}
use lib.Dec.{T, ltb}
use lib.ListN.{length, get_or, take, drop, length-drop}
use lib.Seq.{get_or-take, get_or-drop, length-take-le}
use lib.Ieee.{Float, nan, binary32, fits}
use Rattle.error.specs.Answer.{value, place}
use Rattle.error.proofs.Chains.{first-accepts}
use Rattle.digits.proofs.Laws.{Below}
use Rattle.float.specs.Bytes.{of_le_bytes, to_le_bytes}
use Rattle.float.proofs.Bytes.{length-to_le_bytes, of_le_bytes-to_le_bytes, to_le_bytes-of_le_bytes}
use Rattle.lists.specs.Chunks.{chunks}
use Rattle.radius.specs.Radii.{bad_radius}
use Rattle.radius.specs.Codec.{compress_checks, compress_bytes_of, decompress_checks, decompress_of}
use Rattle.radius.proofs.Radii.{radius-not-nan}
use Rattle.lists.proofs.Chunks.{chunks-get_or, length-chunks, chunks-joined, length-joined, joined-chunks, map_same}
use Rattle.radius.proofs.Accepted.{compressed-place, compressed-is, decompressed-length, decompressed-is, decompressed-place, decompressed-radius}
use Rattle.radius.specs.declared.Range.{Range}
use Rattle.radius.specs.declared.RadiusCodecProfileV1.TheVariants.{F32}

-- every item is an f32
pub record Floats (radii : List Float) : Type 0 where
  pub at : (i : ℕ) → i < length radii → T (fits binary32 (get_or radii i nan))

-- the floats of their own bytes
pub floats_back : (radii : List Float) → Floats radii → map of_le_bytes (chunks 4 (length radii) (flat_map to_le_bytes radii)) ≡ radii
floats_back radii f =
    chunks-joined to_le_bytes 4 length-to_le_bytes of_le_bytes radii
    ∙ map_same (λ r. of_le_bytes (to_le_bytes r)) radii nan (λ i h. of_le_bytes-to_le_bytes (get_or radii i nan) (f.at i h))

pub decompress_compress : (radii : List Float) (room : ℕ) (bytes : List ℕ) (range : Range) → Floats radii → compress_bytes_of radii F32 room ≡ value bytes → decompress_of F32 (length radii) range bytes (length radii) ≡ value radii
unfolding decompress_of
decompress_compress radii room bytes range f made =
    let back = ap (λ (l : List ℕ). map of_le_bytes (chunks 4 (length radii) l)) (compressed-is radii F32 room bytes made) ∙ floats_back radii f in
    let long = ap length (compressed-is radii F32 room bytes made) ∙ length-joined to_le_bytes 4 length-to_le_bytes radii in
    let all = compressed-place radii F32 room bytes made in
    first-accepts (decompress_checks F32 (length radii) range bytes (length radii)) _ (refl, (ap not (eq-eqb _ _ long), (ap (λ (l : List Float). ltb (place bad_radius l) (length l)) back ∙ le-ltb (place bad_radius radii) (length radii) (omega (arith, all)), (ap not (eq-eqb (length radii) (length radii) refl), tt))))
    ∙ ap value back

-- ---- the other way

length_part : (bytes : List ℕ) (k : ℕ) → k + 4 ≤ length bytes → length (take 4 (drop k bytes)) ≡ 4
length_part bytes k h = length-take-le 4 (drop k bytes) (rw length-drop (omega arith))

-- a part of bytes is of bytes
part-below : (bytes : List ℕ) (k : ℕ) → Below 256 bytes → k + 4 ≤ length bytes → Below 256 (take 4 (drop k bytes))
part-below bytes k b h = record { at = inside }
  where
    inside : (i : ℕ) → i < length (take 4 (drop k bytes)) → get_or (take 4 (drop k bytes)) i 0 < 256
    inside i g =
        let small : i < 4 = omega (arith, g, length_part bytes k h) in
        rw (get_or-take 4 (drop k bytes) i 0 small, get_or-drop) (b.at (k + i) (omega (arith, h, small)))

module _ (count : ℕ) (range : Range) (payload : List ℕ) (room : ℕ) (radii : List Float) (b : Below 256 payload) (read : decompress_of F32 count range payload room ≡ value radii) where
  -- as many radii as asked for
  counted : length radii ≡ count
  counted = ap length (decompressed-is count range payload room radii read) ∙ length-chunks of_le_bytes 4 count payload

  -- the four bytes of each radius come back
  bytes_back : (i : ℕ) → i < count → let part = take 4 (drop (4 * i) payload) in to_le_bytes (of_le_bytes part) ≡ part
  bytes_back i h =
      let part = take 4 (drop (4 * i) payload) in
      let inside : 4 * i + 4 ≤ length payload = omega (arith, h, decompressed-length count range payload room radii read) in
      let here = ap (λ (l : List Float). get_or l i nan) (decompressed-is count range payload room radii read) ∙ chunks-get_or of_le_bytes 4 count i payload nan h in
      let good = ap bad_radius (sym here) ∙ decompressed-radius count range payload room radii read i (omega (arith, h, counted)) in
      to_le_bytes-of_le_bytes part (part-below payload (4 * i) b inside) (length_part payload (4 * i) inside) (subst (λ (t : Bool). T (not t)) (sym (radius-not-nan (of_le_bytes part) good)) tt)

  pub compress_decompress : compress_bytes_of radii F32 (length payload) ≡ value payload
  unfolding compress_bytes_of
  compress_decompress =
      let long = decompressed-length count range payload room radii read ∙ ap (λ (n : ℕ). 4 * n) (sym counted) in
      let all = decompressed-place count range payload room radii read in
      first-accepts (compress_checks radii F32 (length payload)) _ (le-ltb (place bad_radius radii) (length radii) (omega (arith, all)), (refl, (ap not (eq-eqb _ _ long), tt)))
      ∙ ap value
      (ap (flat_map to_le_bytes) (decompressed-is count range payload room radii read)
      ∙ joined-chunks of_le_bytes to_le_bytes 4 count payload (decompressed-length count range payload room radii read) bytes_back)

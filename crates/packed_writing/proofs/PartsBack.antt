-- The payloads of a record that was written are read back as they were written: their places follow from the header's fields. Assumes nothing.
use Prim.Native.Nat.{ℕ, ◌*◌, ◌/◌, ◌^◌, ◌<◌}
use mathlib.Core.Path.{◌≡◌, sym, ap, ◌∙◌}
use mathlib.Core.Bool.{false}
use mathlib.Core.List.{List, [], ◌∷◌, ◌++◌}
use native.Mathlib.Omega.{arith}
use lib.IntN.{ℤ}
use lib.ListN.{length, take, length-append}
use lib.Seq.{take_at, drop_at}
use lib.Ieee.{Float}
use Rattle.digits.specs.Digits.{digits}
use Rattle.float.specs.Bytes.{to_le_bytes}
use Rattle.float.proofs.Bytes.{length-to_le_bytes}
use Rattle.radius.specs.Codec.{bad_profile, width_of, range_for, payload_for}
use Rattle.radius.specs.Linear.{linear_bytes}
use Rattle.radius.specs.Radii.{range_of}
use Rattle.radius.specs.declared.Range.{Range}
use Rattle.radius.specs.declared.RadiusCodecProfileV1.{RadiusCodecProfileV1}
use Rattle.radius.specs.declared.RadiusCodecProfileV1.TheVariants.{F32, BlockLinearU16, BlockLogU8}
use Rattle.lists.proofs.Chunks.{length-joined}
use Rattle.radius.proofs.Linear.{length-linear_bytes}
use Rattle.packed.specs.declared.Code.{Code}
use Rattle.packed.specs.Layout.{header_length, radii_start, radii_length, part_at, radii_bytes}
use Rattle.packed_size.specs.Size.{map_for}
use Rattle.bitpack.specs.Packing.{index_bytes}
use Rattle.bitpack.specs.Signs.{sign_bytes}
use Rattle.packed_writing.specs.Writing.{range_bytes, projection_bytes, norm_bytes, header_bytes, record_of}
use Rattle.packed_writing.proofs.Writing.{range-long, projection-long, norm-long}
use Rattle.packed_size.proofs.Maps.{map-tells, profile-back}
use Rattle.packed_writing.proofs.FieldsBack.{map_back, dim-back}

-- a part between two others
part_of : (h r t : List ℕ) (at long : ℕ) → length h ≡ at → length r ≡ long → part_at (h ++ (r ++ t)) at long ≡ r
part_of h r t at long lh lr = ap (take long) (drop_at h (r ++ t) at lh) ∙ take_at r t long lr

pub length-header : (code : Code) (range : Range) → length (header_bytes code range) ≡ header_length (map_for code.profile code.mode code.norm)
unfolding header_bytes digits
length-header code range =
    let six = map_for code.profile code.mode code.norm ∷ digits 256 4 code.dim ++ (code.bits ∷ []) in
    let run = range_bytes code.profile range in
    let rows = projection_bytes code.mode code.projections in
    length-append (six ++ run ++ rows) (norm_bytes code.norm)
    ∙ rw (length-append (six ++ run) rows, length-append six run, range-long code.profile range, projection-long code.mode code.projections, norm-long code.norm) (sym (map-tells code.profile code.mode code.norm).long)

pub length-payload_for : (profile : RadiusCodecProfileV1) (radii : List Float) → bad_profile profile ≡ false → length (payload_for profile radii) ≡ width_of profile * length radii
length-payload_for F32 radii e = length-joined to_le_bytes 4 length-to_le_bytes radii
length-payload_for BlockLinearU16 radii e = length-joined (linear_bytes (range_of radii)) 2 (length-linear_bytes (range_of radii)) radii
length-payload_for BlockLogU8 radii e = let z : ◌≡◌ {A = ℕ} 0 1 = cc in absurd (omega arith)

module _ (code : Code) (radii : List Float) (indices : List ℕ) (signs : List ℤ) (known : bad_profile code.profile ≡ false) (small : code.dim < 2 ^ 32) (paired : length radii ≡ code.dim / 2) where
  whole : part_at (record_of code radii indices signs) (header_length (map_for code.profile code.mode code.norm)) (width_of code.profile * length radii) ≡ payload_for code.profile radii
  unfolding record_of
  whole = part_of (header_bytes code (range_for code.profile radii)) (payload_for code.profile radii) (index_bytes code.bits indices ++ sign_bytes signs) (header_length (map_for code.profile code.mode code.norm)) (width_of code.profile * length radii) (length-header code (range_for code.profile radii)) (length-payload_for code.profile radii known)

  pub radii_back : radii_bytes (record_of code radii indices signs) ≡ payload_for code.profile radii
  unfolding radii_bytes
  radii_back =
      let bytes = record_of code radii indices signs in
      let at : radii_start bytes ≡ header_length (map_for code.profile code.mode code.norm) = ap header_length (map_back code radii indices signs) in
      let long : radii_length bytes ≡ width_of code.profile * length radii = rw (map_back code radii indices signs, profile-back code.profile code.mode code.norm known, dim-back code radii indices signs small, paired) in
      ap (λ (a : ℕ). part_at bytes a (radii_length bytes)) at
      ∙ ap (λ (l : ℕ). part_at bytes (header_length (map_for code.profile code.mode code.norm)) l) long
      ∙ whole

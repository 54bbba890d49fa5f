-- The payloads of what was written hold what was given: the indices and the signs come back as they were, the radii as the writer said that they would be read.
-- The padding of both packed payloads is zero. Assumes nothing.
use Prim.Native.Nat.{ℕ, ◌+◌, ◌*◌, ◌^◌, ◌≤◌}
use mathlib.Core.Path.{◌≡◌, refl, sym, ap, ◌∙◌}
use mathlib.Core.Bool.{false}
use mathlib.Core.List.{List, [], ◌∷◌, ◌++◌, append_assoc}
use native.Mathlib.Omega.{arith}
use lib.IntN.{ℤ}
use lib.ListN.{length, get_or, take, length-append}
use lib.Seq.{take_all, take_at, drop_at}
use lib.Ieee.{Float, nan}
use Rattle.error.specs.Answer.{value}
use Rattle.error.specs.Checks.{wrong_bits, wrong_room}
use Rattle.error.proofs.Chains.{first_passes}
use Rattle.digits.specs.Digits.{number}
use Rattle.digits.proofs.Laws.{length_digits}
use Rattle.float.specs.Bytes.{of_le_bytes, to_le_bytes}
use Rattle.float.proofs.Bytes.{length-to_le_bytes, of_le_bytes-to_le_bytes}
use Rattle.bitpack.specs.Padding.{bytes_for, bad_padding, wrong_length, wrong_padding}
use Rattle.bitpack.specs.Packing.{wrong_overflow, pack_indices_of, unpack_indices_of, index_bytes}
use Rattle.bitpack.specs.Signs.{unpack_signs_of, sign_bytes}
use Rattle.bitpack.proofs.RoundTrip.{unpack_pack, unpack_indices, unpack_pack_signs, unpack_signs-bits}
use Rattle.radius.specs.Codec.{width_of, range_for, payload_for}
use Rattle.radius.specs.declared.RadiusCodecProfileV1.TheVariants.{F32}
use Rattle.lists.proofs.Chunks.{chunks-joined, map_same}
use Rattle.radius.proofs.RoundTrip.{Floats}
use Rattle.packed.specs.declared.Code.{Code}
use Rattle.packed.specs.Fields.{projections_of}
use Rattle.packed.specs.Layout.{header_length, pairs_of, indices_used, indices_start, indices_length, signs_start, signs_length, part_at, radii_bytes, indices_bytes, signs_bytes}
use Rattle.packed.specs.Reading.{radii_of, indices_of, signs_of}
use Rattle.packed_size.specs.Size.{map_for}
use Rattle.packed_writing.specs.Writing.{header_bytes, record_of}
use Rattle.radius.specs.Firsts.{read_back}
use Rattle.packed.proofs.Headers.{product-most}
use Rattle.packed_writing.proofs.Writing.{indices-pass, signs-pass}
use Rattle.packed_writing.proofs.PartsBack.{length-header, length-payload_for, radii_back}
use Rattle.packed_size.proofs.Scalars.{bits_inside}
use Rattle.packed_laws.proofs.Inputs.{WrittenRecord}
use Rattle.packed_laws.proofs.Fields.{map-written, profile-written, dim-written, bits-written, projections-written, bounds-written}

-- ---- parts of joined lists

part-third : (h r x t : List ℕ) (at long : ℕ) → length h + length r ≡ at → length x ≡ long → part_at (h ++ (r ++ (x ++ t))) at long ≡ x
part-third h r x t at long before sized =
    ap (λ (l : List ℕ). part_at l at long) (sym (append_assoc h r (x ++ t)))
    ∙ ap (take long) (drop_at (h ++ r) (x ++ t) at (length-append h r ∙ before))
    ∙ take_at x t long sized

part-last : (h r x t : List ℕ) (at long : ℕ) → length h + length r + length x ≡ at → length t ≡ long → part_at (h ++ (r ++ (x ++ t))) at long ≡ t
part-last h r x t at long before sized =
    ap (λ (l : List ℕ). part_at l at long) (sym (append_assoc h r (x ++ t)) ∙ sym (append_assoc (h ++ r) x t))
    ∙ ap (take long) (drop_at ((h ++ r) ++ x) t at (length-append (h ++ r) x ∙ ap (λ (n : ℕ). n + length x) (length-append h r) ∙ before))
    ∙ take_all long t (omega (arith, sized))

-- ---- a packed payload that is read leaves no padding

unpacked-clean : (packed : List ℕ) (count bits room : ℕ) {indices : List ℕ} → unpack_indices_of packed count bits room ≡ value indices → bad_padding packed (count * bits) ≡ false
unfolding unpack_indices_of
unpacked-clean packed count bits room told = (first_passes (wrong_bits bits ∷ wrong_overflow count bits ∷ wrong_length packed (count * bits) ∷ wrong_padding packed (count * bits) ∷ wrong_room room count ∷ []) _ told).1.1.1.0

unpacked-signs-clean : (packed : List ℕ) (count room : ℕ) {signs : List ℤ} → unpack_signs_of packed count room ≡ value signs → bad_padding packed count ≡ false
unfolding unpack_signs_of
unpacked-signs-clean packed count room told = (first_passes (wrong_length packed count ∷ wrong_padding packed count ∷ wrong_room room count ∷ []) _ told).1.0

-- ---- F32 radii come back from their bytes

pub floats-read_back : (radii : List Float) → Floats radii → read_back F32 radii ≡ radii
unfolding read_back
floats-read_back radii f =
    chunks-joined to_le_bytes 4 length-to_le_bytes of_le_bytes radii
    ∙ map_same (λ r. of_le_bytes (to_le_bytes r)) radii nan (λ i h. of_le_bytes-to_le_bytes (get_or radii i nan) (f.at i h))

module _ {code : Code} {radii : List Float} {indices : List ℕ} {signs : List ℤ} {room : ℕ} {bytes : List ℕ} (w : WrittenRecord code radii indices signs room bytes) where
  -- ---- the payloads' bytes

  pub radii_bytes-written : radii_bytes bytes ≡ payload_for code.profile radii
  radii_bytes-written = ap radii_bytes w.made ∙ radii_back code radii indices signs w.known (omega (arith, w.most)) w.radii_long

  -- where the indices start
  indices_start_lem : indices_start bytes ≡ header_length (map_for code.profile code.mode code.norm) + width_of code.profile * length radii
  indices_start_lem = rw (profile-written w, map-written w, dim-written w, w.radii_long)

  indices-size : indices_used bytes ≡ length indices * code.bits
  indices-size = rw (dim-written w, bits-written w, w.indices_long)

  signs-size : projections_of bytes ≡ length signs
  signs-size = projections-written w ∙ sym w.signs_long

  before-indices : length (header_bytes code (range_for code.profile radii)) + length (payload_for code.profile radii) ≡ indices_start bytes
  before-indices = rw (length-header code (range_for code.profile radii), length-payload_for code.profile radii w.known) (sym indices_start_lem)

  pub indices_bytes-written : indices_bytes bytes ≡ index_bytes code.bits indices
  unfolding indices_bytes record_of
  indices_bytes-written =
      ap (λ (l : List ℕ). part_at l (indices_start bytes) (indices_length bytes)) w.made
      ∙ part-third (header_bytes code (range_for code.profile radii)) (payload_for code.profile radii) (index_bytes code.bits indices) (sign_bytes signs) (indices_start bytes) (indices_length bytes)
      before-indices
      (length_digits 256 (bytes_for (length indices * code.bits)) (number (2 ^ code.bits) indices) ∙ ap bytes_for (sym indices-size))

  pub signs_bytes-written : signs_bytes bytes ≡ sign_bytes signs
  unfolding signs_bytes record_of
  signs_bytes-written =
      let sized : length (index_bytes code.bits indices) ≡ indices_length bytes = length_digits 256 (bytes_for (length indices * code.bits)) (number (2 ^ code.bits) indices) ∙ ap bytes_for (sym indices-size) in
      ap (λ (l : List ℕ). part_at l (signs_start bytes) (signs_length bytes)) w.made
      ∙ part-last (header_bytes code (range_for code.profile radii)) (payload_for code.profile radii) (index_bytes code.bits indices) (sign_bytes signs) (signs_start bytes) (signs_length bytes)
      (rw (before-indices, sized))
      (length_digits 256 (bytes_for (length signs)) _ ∙ ap bytes_for (sym signs-size))

  -- ---- packed, and unpacked again

  indices-packed : pack_indices_of indices code.bits (bytes_for (length indices * code.bits)) ≡ value (index_bytes code.bits indices)
  indices-packed =
      let b = bits_inside code.mode code.bits w.bits_inside in
      let few = product-most (length indices) code.bits 2048 16 (omega (arith, w.indices_long, w.most)) b.1 in
      indices-pass indices code.bits (bytes_for (length indices * code.bits)) b.0 b.1 (omega (arith, few)) refl w.indices_good

  indices-unpacked : unpack_indices_of (index_bytes code.bits indices) (length indices) code.bits (length indices) ≡ value indices
  indices-unpacked = unpack_pack indices code.bits (bytes_for (length indices * code.bits)) indices-packed

  signs-unpacked : unpack_signs_of (sign_bytes signs) (length signs) (length signs) ≡ value signs
  signs-unpacked = unpack_pack_signs signs (bytes_for (length signs)) (signs-pass signs (bytes_for (length signs)) refl w.signs_good)

  pairs-written : pairs_of bytes ≡ length indices
  pairs-written = rw (dim-written w) (sym w.indices_long)

  -- the indices come back
  pub indices_written : indices_of bytes ≡ indices
  unfolding indices_of
  indices_written =
      rw (bits-written w, pairs-written, indices_bytes-written)
      (unpack_indices (index_bytes code.bits indices) (length indices) code.bits (length indices) indices-unpacked)

  -- the signs come back
  pub signs_written : signs_of bytes ≡ signs
  unfolding signs_of
  signs_written = rw (signs-size, signs_bytes-written) (unpack_signs-bits (sign_bytes signs) (length signs) (length signs) signs-unpacked)

  -- the radii are read as the writer said
  pub radii-written : Floats radii → radii_of bytes ≡ read_back code.profile radii
  unfolding radii_of read_back
  radii-written f = rw (profile-written w, bounds-written w f, radii_bytes-written, dim-written w, w.radii_long)

  -- ---- no padding

  pub indices-clean : bad_padding (indices_bytes bytes) (indices_used bytes) ≡ false
  indices-clean = rw (indices_bytes-written, indices-size) (unpacked-clean (index_bytes code.bits indices) (length indices) code.bits (length indices) indices-unpacked)

  pub signs-clean : bad_padding (signs_bytes bytes) (projections_of bytes) ≡ false
  signs-clean = rw (signs_bytes-written, signs-size) (unpacked-signs-clean (sign_bytes signs) (length signs) (length signs) signs-unpacked)

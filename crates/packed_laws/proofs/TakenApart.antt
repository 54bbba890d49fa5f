-- An accepted record is the bytes of its own fields, indices and signs, with the radii's bytes between them; F32 radii's bytes are those of the radii as read.
-- Bytes are numbers below 256. Assumes nothing.
use Prim.Native.Nat.{ℕ, zero, suc, ◌-◌, ◌*◌, ◌/◌, ◌%◌, ◌^◌, ◌≤◌, ◌<◌}
use mathlib.Core.Path.{◌≡◌, refl, sym, ap, ◌∙◌}
use mathlib.Core.Bool.{Bool, true, false, cond, ◌||◌}
use mathlib.Core.List.{List, [], ◌∷◌, ◌++◌, map, flat_map, append_assoc}
use native.Mathlib.Omega.{arith}
use borrow.Author.Tests.{le-ltb, eq-eqb, eqb-true, eqb-false}
use lib.Dec.{eqb}
use lib.ListN.{length, get_or, take, drop}
use lib.Seq.{take-add}
use lib.Ieee.{Float, nan, lt}
use Rattle.std.specs.Prelude.{None, Some}
use Rattle.error.specs.Answer.{value}
use Rattle.error.proofs.Chains.{or-false}
use Rattle.digits.specs.Digits.{digits}
use Rattle.digits.proofs.Laws.{Below}
use Rattle.float.specs.Bytes.{of_le_bytes, to_le_bytes}
use Rattle.bitpack.specs.Padding.{bytes_for}
use Rattle.bitpack.specs.Packing.{unpack_indices_of, index_bytes}
use Rattle.bitpack.specs.Signs.{unpack_signs_of, sign_bytes}
use Rattle.bitpack.proofs.RoundTrip.{pack-bytes, pack_unpack, pack_signs-bytes, pack_unpack_signs}
use Rattle.lists.specs.Chunks.{chunks}
use Rattle.radius.specs.Radii.{bad_radius}
use Rattle.lists.proofs.Chunks.{chunks-get_or, joined-chunks}
use Rattle.packed.specs.Fields.{map_of, range_bit, signs_bit, norm_bit, has_range, has_signs, has_norm, profile_of, mode_of, float_at, dim_of, bits_of, bounds_of, projections_start, projections_of, norm_start, norm_of}
use Rattle.packed.specs.Layout.{header_length, pairs_of, radii_start, radii_length, indices_used, indices_start, indices_length, signs_start, signs_length, part_at, radii_bytes, indices_bytes, signs_bytes}
use Rattle.packed.specs.Radii.{bad_bounds}
use Rattle.packed.specs.Reading.{radii_of, indices_of, signs_of}
use Rattle.packed.specs.Accepted.{Accepted}
use Rattle.packed_size.specs.Size.{map_for}
use Rattle.packed_writing.specs.Writing.{range_bytes, projection_bytes, norm_bytes, header_bytes}
use Rattle.packed.proofs.Headers.{product-most}
use Rattle.packed.proofs.Parts.{length-radii, length-indices, length-signs}
use Rattle.packed.proofs.Payloads.{length-radii_of}
use Rattle.packed.specs.declared.Code.{Code}
use Rattle.packed_laws.specs.RoundTrips.{norm_as, code_as, norm_part}
use Rattle.packed_laws.proofs.Parts.{part-below, part-two, word-again, float-again, four-parts, six-bytes, header-parts}

-- the scalars that a record's bytes tell, under their own profile
abbrev pub code_of : List ℕ → Code
code_of bytes = code_as (profile_of (map_of bytes)) bytes

-- the map byte is made again from what it tells
pub map-again : (map : ℕ) (x : Float) → map ≤ 7 → map_for (profile_of map) (mode_of map) (cond (has_norm map) (Some x) None) ≡ map
map-again zero x h = refl
map-again (suc zero) x h = refl
map-again (suc (suc zero)) x h = refl
map-again (suc (suc (suc zero))) x h = refl
map-again (suc (suc (suc (suc zero)))) x h = refl
map-again (suc (suc (suc (suc (suc zero))))) x h = refl
map-again (suc (suc (suc (suc (suc (suc zero)))))) x h = refl
map-again (suc (suc (suc (suc (suc (suc (suc zero))))))) x h = refl
map-again (suc (suc (suc (suc (suc (suc (suc (suc n)))))))) x h = absurd (omega (arith, h))

-- a bit is 1 where its test says so, and else 0
bit-one : (n : ℕ) → eqb (n % 2) 1 ≡ true → n % 2 ≡ 1
bit-one n e = eqb-true (n % 2) 1 e

bit-none : (n : ℕ) → eqb (n % 2) 1 ≡ false → n % 2 ≡ 0
bit-none n e = let z = eqb-false (n % 2) 1 e in omega (arith, z)

module _ (bytes : List ℕ) (b : Below 256 bytes) (a : Accepted bytes) where
  -- ---- the header

  bounds-again : (t : Bool) → has_range (map_of bytes) ≡ t → range_bytes (profile_of (map_of bytes)) (bounds_of bytes) ≡ part_at bytes 6 (8 * range_bit (map_of bytes))
  unfolding bounds_of
  bounds-again true e =
      let one = bit-one (map_of bytes) e in
      let enough : 14 ≤ length bytes = omega (arith, a.header, one) in
      let good : bad_bounds (record { min = float_at bytes 6; max = float_at bytes 10 }) ≡ false = rw one at (a.bounds e) in
      let ends = or-false (bad_radius (float_at bytes 6) || bad_radius (float_at bytes 10)) (lt (float_at bytes 10) (float_at bytes 6)) good in
      let both = or-false (bad_radius (float_at bytes 6)) (bad_radius (float_at bytes 10)) ends.0 in
      rw one
      (rw (float-again bytes b 6 (omega (arith, enough)) both.0, float-again bytes b 10 (omega (arith, enough)) both.1) (sym (part-two bytes 6 4 4)))
  bounds-again false e = rw (bit-none (map_of bytes) e)

  projections-again : (t : Bool) → has_signs (map_of bytes) ≡ t → projection_bytes (mode_of (map_of bytes)) (projections_of bytes) ≡ part_at bytes (projections_start (map_of bytes)) (4 * signs_bit (map_of bytes))
  unfolding projections_of
  projections-again true e =
      let one = bit-one (map_of bytes / 2) e in
      rw one (word-again bytes b (projections_start (map_of bytes)) (omega (arith, a.header, one)))
  projections-again false e = rw (bit-none (map_of bytes / 2) e)

  pub norm-again : (t : Bool) → has_norm (map_of bytes) ≡ t → norm_bytes (norm_as bytes) ≡ norm_part bytes
  unfolding norm_of
  norm-again true e =
      let one = bit-one (map_of bytes / 4) e in
      let good : bad_radius (float_at bytes (norm_start (map_of bytes))) ≡ false = rw one at a.norm in
      rw one (float-again bytes b (norm_start (map_of bytes)) (omega (arith, a.header, one)) good)
  norm-again false e = rw (bit-none (map_of bytes / 4) e)

  -- the header's bytes are those of its fields
  pub header-again : header_bytes (code_of bytes) (bounds_of bytes) ≡ take (header_length (map_of bytes)) bytes
  unfolding header_bytes
  header-again =
      let map = map_of bytes in
      let range = range_bytes (profile_of map) (bounds_of bytes) in
      let projections = projection_bytes (mode_of map) (projections_of bytes) in
      let norm = norm_bytes (norm_as bytes) in
      ap (λ (n : ℕ). n ∷ digits 256 4 (dim_of bytes) ++ (bits_of bytes ∷ []) ++ range ++ projections ++ norm) (map-again map (norm_of bytes) a.map)
      ∙ ap (λ (l : List ℕ). map ∷ l ++ (bits_of bytes ∷ []) ++ range ++ projections ++ norm) (word-again bytes b 1 (omega (arith, a.long)))
      ∙ ap (λ (l : List ℕ). l ++ range ++ projections ++ norm) (sym (six-bytes bytes a.long))
      ∙ ap (λ (l : List ℕ). take 6 bytes ++ l ++ projections ++ norm) (bounds-again (has_range map) refl)
      ∙ ap (λ (l : List ℕ). take 6 bytes ++ part_at bytes 6 (8 * range_bit map) ++ l ++ norm) (projections-again (has_signs map) refl)
      ∙ ap (λ (l : List ℕ). l ++ norm) (append_assoc (take 6 bytes) (part_at bytes 6 (8 * range_bit map)) (part_at bytes (projections_start map) (4 * signs_bit map)) ∙ sym (header-parts bytes (8 * range_bit map) (4 * signs_bit map)))
      ∙ ap (λ (l : List ℕ). take (norm_start map) bytes ++ l) (norm-again (has_norm map) refl)
      ∙ sym (take-add (norm_start map) (4 * norm_bit map) bytes)

  -- ---- the payloads

  radii-below : Below 256 (radii_bytes bytes)
  unfolding radii_bytes
  radii-below = part-below bytes b (radii_start bytes) (radii_length bytes) (omega (arith, a.total))

  indices-below : Below 256 (indices_bytes bytes)
  unfolding indices_bytes
  indices-below = part-below bytes b (indices_start bytes) (indices_length bytes) (omega (arith, a.total))

  signs-below : Below 256 (signs_bytes bytes)
  unfolding signs_bytes
  signs-below = part-below bytes b (signs_start bytes) (signs_length bytes) (omega (arith, a.total))

  indices-unpacked : unpack_indices_of (indices_bytes bytes) (pairs_of bytes) (bits_of bytes) (pairs_of bytes) ≡ value (indices_of bytes)
  unfolding unpack_indices_of indices_of
  indices-unpacked =
      let used = product-most (pairs_of bytes) (bits_of bytes) 2048 16 (omega (arith, a.most)) a.most_bits in
      rw (le-ltb (bits_of bytes) 1 a.least_bits, le-ltb 16 (bits_of bytes) a.most_bits, le-ltb (2 ^ 64 - 1) (indices_used bytes) (omega (arith, used)), eq-eqb (length (indices_bytes bytes)) (bytes_for (indices_used bytes)) (length-indices bytes a.total), a.indices, eq-eqb (pairs_of bytes) (pairs_of bytes) refl)

  signs-unpacked : unpack_signs_of (signs_bytes bytes) (projections_of bytes) (projections_of bytes) ≡ value (signs_of bytes)
  unfolding unpack_signs_of signs_of
  signs-unpacked = rw (eq-eqb (length (signs_bytes bytes)) (bytes_for (projections_of bytes)) (length-signs bytes a.total), a.signs, eq-eqb (projections_of bytes) (projections_of bytes) refl)

  -- the indices' bytes are those that packing the indices gives
  pub indices-again : index_bytes (bits_of bytes) (indices_of bytes) ≡ indices_bytes bytes
  indices-again =
      pack-bytes (indices_of bytes) (bits_of bytes) (length (indices_bytes bytes))
      (pack_unpack (indices_bytes bytes) (pairs_of bytes) (bits_of bytes) (pairs_of bytes) indices-unpacked indices-below)

  -- the signs' bytes are those that packing the signs gives
  pub signs-again : sign_bytes (signs_of bytes) ≡ signs_bytes bytes
  signs-again =
      pack_signs-bytes (signs_of bytes) (length (signs_bytes bytes))
      (pack_unpack_signs (signs_bytes bytes) (projections_of bytes) (projections_of bytes) signs-unpacked signs-below)

  -- the whole record, with the radii's own bytes
  pub parts_again : header_bytes (code_of bytes) (bounds_of bytes) ++ (radii_bytes bytes ++ (index_bytes (bits_of bytes) (indices_of bytes) ++ sign_bytes (signs_of bytes))) ≡ bytes
  unfolding radii_bytes indices_bytes signs_bytes
  parts_again =
      rw (header-again, indices-again, signs-again)
      (four-parts bytes (radii_start bytes) (radii_length bytes) (indices_length bytes) (signs_length bytes) a.total)

  -- ---- F32 radii

  module _ (plain : has_range (map_of bytes) ≡ false) where
    radii-are : radii_of bytes ≡ map of_le_bytes (chunks 4 (pairs_of bytes) (radii_bytes bytes))
    unfolding radii_of
    radii-are = rw plain

    radii-size : length (radii_bytes bytes) ≡ 4 * pairs_of bytes
    radii-size = length-radii bytes a.total ∙ rw plain

    -- F32 radii's bytes are those of the radii as read
    pub floats-again : flat_map to_le_bytes (radii_of bytes) ≡ radii_bytes bytes
    floats-again = ap (flat_map to_le_bytes) radii-are ∙ joined-chunks of_le_bytes to_le_bytes 4 (pairs_of bytes) (radii_bytes bytes) radii-size each
      where
        each : (i : ℕ) → i < pairs_of bytes → let part = take 4 (drop (4 * i) (radii_bytes bytes)) in to_le_bytes (of_le_bytes part) ≡ part
        each i h =
            let here = ap (λ (l : List Float). get_or l i nan) radii-are ∙ chunks-get_or of_le_bytes 4 (pairs_of bytes) i (radii_bytes bytes) nan h in
            let good = ap bad_radius (sym here) ∙ a.radii i (rw (length-radii_of bytes) h) in
            float-again (radii_bytes bytes) radii-below (4 * i) (omega (arith, h, radii-size)) good

-- The radii of a linear record: how each is read, that none is a NaN or below zero once the range has passed, and that 16 names a radius that reads as infinite.
-- Bytes are numbers below 256. Assumes nothing.
use Prim.Native.Nat.{ℕ, ◌+◌, ◌*◌, ◌^◌, ◌≤◌, ◌<◌}
use mathlib.Core.Path.{◌≡◌, ◌∙◌, subst}
use mathlib.Core.Bool.{Bool, true, false, cond}
use mathlib.Core.List.{List, [], ◌∷◌, ◌++◌}
use native.Mathlib.Omega.{arith}
use borrow.Author.Tests.{ltb-true}
use lib.Dec.{T, ltb}
use lib.ListN.{length, get_or, take, drop}
use lib.Ieee.{nan, inf, binary32, fits, is_nan, lt}
use lib.Ieee.Bits.{of_bits-fits}
use Rattle.error.specs.Answer.{refused, check, place}
use Rattle.digits.specs.Digits.{number}
use Rattle.digits.proofs.Laws.{Below, number_lt}
use Rattle.float.specs.Bytes.{of_le_bytes}
use Rattle.error.proofs.Differs.{differs-same}
use Rattle.error.specs.Checks.{differs}
use Rattle.radius.specs.Linear.{linear_radius}
use Rattle.float.specs.Constants.{pos_zero}
use Rattle.radius.specs.Radii.{bad_radius, wrong_norm}
use Rattle.radius.specs.declared.Range.{Range}
use Rattle.lists.proofs.Chunks.{chunks-get_or}
use Rattle.packed.specs.Fields.{map_of, has_range, profile_of, float_at, bounds_of, norm_of}
use Rattle.packed.specs.Layout.{pairs_of, radii_start, radii_length, record_length, radii_bytes, header_of}
use Rattle.packed.specs.Radii.{bad_bounds, bad_bounds_for}
use Rattle.packed.specs.Reading.{radii_of, wrong_size, header_checks, padding_checks, read_record_of}
use Rattle.packed.proofs.Withdrawn.{read-refused}
use Rattle.packed.proofs.Parts.{length_part, length-radii}
use Rattle.packed.proofs.Payloads.{length-radii_of}
use Rattle.packed_laws.proofs.Ranges.{zero-fits}
use Rattle.packed_laws.proofs.Parts.{part-below}
use Rattle.packed_laws.proofs.LinearRadius.{linear_radius-good, linear_radius-infinite}
use Rattle.packed_laws.proofs.Refused.{refused-here, place-offends}

-- two bytes are a number of 16 bits
two_bytes : (part : List ℕ) → Below 256 part → length part ≡ 2 → number 256 part ≤ 65535
two_bytes part b long =
    let small : number 256 part < 256 ^ 2 = subst (λ (n : ℕ). number 256 part < 256 ^ n) long (number_lt 256 part b) in
    omega (arith, small)

-- the greatest of a record's range is an f32
max-float : (bytes : List ℕ) → T (fits binary32 (bounds_of bytes).max)
unfolding bounds_of of_le_bytes
max-float bytes = go (has_range (map_of bytes))
  where
    go : (t : Bool) → T (fits binary32 (cond {A = Range} t (record { min = float_at bytes 6; max = float_at bytes 10 }) (record { min = pos_zero; max = pos_zero })).max)
    go true = of_bits-fits binary32 (number 256 (take 4 (drop 10 bytes)))
    go false = zero-fits

-- each radius is read from its two bytes by the range: min + (max − min) × (v / 65,535), each step rounded
pub linear-radii : (bytes : List ℕ) → has_range (map_of bytes) ≡ true → (i : ℕ) → i < pairs_of bytes → get_or (radii_of bytes) i nan ≡ linear_radius (bounds_of bytes) (take 2 (drop (2 * i) (radii_bytes bytes)))
unfolding radii_of
linear-radii bytes linear i h = rw linear (chunks-get_or (linear_radius (bounds_of bytes)) 2 (pairs_of bytes) i (radii_bytes bytes) nan h)

module _ (bytes : List ℕ) (b : Below 256 bytes) (linear : has_range (map_of bytes) ≡ true) (sized : length bytes ≡ record_length bytes) (bounds : bad_bounds (bounds_of bytes) ≡ false) (i : ℕ) (h : i < pairs_of bytes) where
  radii-below : Below 256 (radii_bytes bytes)
  unfolding radii_bytes
  radii-below = part-below bytes b (radii_start bytes) (radii_length bytes) (omega (arith, sized))

  two-small : number 256 (take 2 (drop (2 * i) (radii_bytes bytes))) ≤ 65535
  two-small =
      let long : length (radii_bytes bytes) ≡ 2 * pairs_of bytes = length-radii bytes sized ∙ rw linear in
      let inside : 2 * i + 2 ≤ length (radii_bytes bytes) = omega (arith, long, h) in
      two_bytes (take 2 (drop (2 * i) (radii_bytes bytes))) (part-below (radii_bytes bytes) radii-below (2 * i) 2 inside) (length_part (radii_bytes bytes) (2 * i) 2 inside)

  -- whatever the bytes are, a radius of a linear record is no NaN and not below zero
  pub linear-record-good : (is_nan (get_or (radii_of bytes) i nan) ≡ false) × (lt (get_or (radii_of bytes) i nan) pos_zero ≡ false)
  linear-record-good = rw (linear-radii bytes linear i h) (linear_radius-good (bounds_of bytes) (take 2 (drop (2 * i) (radii_bytes bytes))) (max-float bytes) bounds two-small)

  -- one that is refused reads as infinite
  pub linear-record-infinite : bad_radius (get_or (radii_of bytes) i nan) ≡ true → get_or (radii_of bytes) i nan ≡ inf false
  linear-record-infinite = rw (linear-radii bytes linear i h) (linear_radius-infinite (bounds_of bytes) (take 2 (drop (2 * i) (radii_bytes bytes))) (max-float bytes) bounds two-small)

-- 16 in a linear record names a radius that reads as infinite
pub linear-refused : (bytes : List ℕ) → Below 256 bytes → has_range (map_of bytes) ≡ true → (p : ℕ) → read_record_of bytes ≡ refused 16 p → get_or (radii_of bytes) p nan ≡ inf false
linear-refused bytes b linear p told =
    let before = header_checks bytes ++ (wrong_size (differs (length bytes) (record_length bytes)) bytes ∷ check (bad_bounds_for (profile_of (map_of bytes)) (bounds_of bytes)) 17 0 ∷ wrong_norm (norm_of bytes) ∷ []) in
    let bad = place bad_radius (radii_of bytes) in
    let found = refused-here (header_of bytes) before (ltb bad (length (radii_of bytes))) 16 bad (padding_checks bytes) (tt, (tt, (tt, (tt, (tt, (tt, (tt, (tt, (tt, (tt, (tt, tt))))))))))) (tt, (tt, tt)) (read-refused bytes told).1 in
    let passed = found.0.1.1.1.1.1.1.1.1 in
    let below : bad < length (radii_of bytes) = ltb-true bad (length (radii_of bytes)) found.1.0 in
    let sized : length bytes ≡ record_length bytes = differs-same (length bytes) (record_length bytes) passed.0 in
    let bounds : bad_bounds (bounds_of bytes) ≡ false = rw linear at passed.1.0 in
    subst (λ (i : ℕ). get_or (radii_of bytes) i nan ≡ inf false) found.1.1
    (linear-record-infinite bytes b linear sized bounds bad (rw length-radii_of at below) (place-offends bad_radius (radii_of bytes) nan below))

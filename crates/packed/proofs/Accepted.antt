-- The reader answers a value exactly for the accepted records: `read_accepts` and `accepted_reads`. What it answers then is the header that
-- the bytes hold. Assumes nothing.
use Prim.Native.Nat.{ℕ, ◌%◌, ◌≤◌, ◌<◌}
use mathlib.Core.Path.{◌≡◌, refl, sym, ◌∙◌}
use mathlib.Core.Bool.{Bool, true, false, cond, not, ◌&&◌, true≢false}
use mathlib.Core.List.{List}
use native.Mathlib.Omega.{arith}
use borrow.Author.Tests.{le-ltb, ltb-false, ne_eqb, eqb-false}
use lib.Dec.{ltb, eqb}
use lib.ListN.{length}
use lib.Ieee.{nan}
use Rattle.error.specs.Answer.{value}
use Rattle.error.proofs.Chains.{first-all, first-accepts, or-false, first-value}
use Rattle.error.proofs.Places.{each-clear, each_none}
use Rattle.error.proofs.Differs.{differs-same, differs-not}
use Rattle.radius.specs.declared.Range.{Range}
use Rattle.radius.specs.declared.RadiusCodecProfileV1.TheVariants.{F32, BlockLinearU16}
use Rattle.setup.specs.declared.TurboMode.TheVariants.{PolarOnly, PolarWithQjl}
use Rattle.packed.specs.declared.Header.{Header}
use Rattle.radius.specs.Radii.{bad_radius}
use Rattle.packed.specs.Fields.{map_of, has_range, has_signs, has_norm, dim_of, bits_of, bounds_of, projections_of}
use Rattle.packed.specs.Layout.{header_length, record_length, header_of}
use Rattle.packed.specs.Radii.{bad_bounds, bad_bounds_for}
use Rattle.packed.specs.Reading.{radii_of, bad_polar_bits, is_withdrawn, record_checks, read_record_of}
use Rattle.setup.specs.Checks.{bad_projections}
use Rattle.packed.specs.Accepted.{Accepted}
use Rattle.packed.proofs.Withdrawn.{some_bytes, unless-some, read-passed}

-- ---- the checks that depend on a bit of the map byte, both ways

beside-told : (n s : Bool) → n && not s ≡ false → n ≡ true → s ≡ true
beside-told true true e t = refl
beside-told true false e t = absurd (true≢false e)
beside-told false s e t = absurd (true≢false (sym t))

beside-pass : (n s : Bool) → (n ≡ true → s ≡ true) → n && not s ≡ false
beside-pass true s h = rw (h refl)
beside-pass false s h = refl

bits-told : (t : Bool) (b : ℕ) → bad_polar_bits (cond t PolarWithQjl PolarOnly) b ≡ false → (1 ≤ b) × ((b ≤ 16) × (t ≡ true → b ≤ 15))
bits-told true b e =
    let both = or-false (ltb b 1) (ltb 15 b) e in
    let least = ltb-false b 1 both.0 in
    let most = ltb-false 15 b both.1 in
    (least, (omega (arith, most), λ s. most))
bits-told false b e =
    let both = or-false (ltb b 1) (ltb 16 b) e in
    (ltb-false b 1 both.0, (ltb-false 16 b both.1, λ s. absurd (true≢false (sym s))))

bits-pass : (t : Bool) (b : ℕ) → 1 ≤ b → b ≤ 16 → (t ≡ true → b ≤ 15) → bad_polar_bits (cond t PolarWithQjl PolarOnly) b ≡ false
bits-pass true b least most beside = rw (le-ltb b 1 least, le-ltb 15 b (beside refl))
bits-pass false b least most beside = rw (le-ltb b 1 least, le-ltb 16 b most)

projections-told : (t : Bool) (m : ℕ) → bad_projections (cond t PolarWithQjl PolarOnly) m ≡ false → t ≡ true → (0 < m) × (m ≤ 4096)
projections-told true m e s =
    let both = or-false (eqb m 0) (ltb 4096 m) e in
    let above = eqb-false m 0 both.0 in
    (omega (arith, above), ltb-false 4096 m both.1)
projections-told false m e s = absurd (true≢false (sym s))

projections-pass : (t : Bool) (m : ℕ) → (t ≡ true → (0 < m) × (m ≤ 4096)) → bad_projections (cond t PolarWithQjl PolarOnly) m ≡ false
projections-pass true m h = let both = h refl in rw (ne_eqb m 0 (λ z. omega (arith, z, both.0)), le-ltb 4096 m both.1)
projections-pass false m h = refl

bounds-told : (t : Bool) (range : Range) → bad_bounds_for (cond t BlockLinearU16 F32) range ≡ false → t ≡ true → bad_bounds range ≡ false
bounds-told true range e s = e
bounds-told false range e s = absurd (true≢false (sym s))

bounds-pass : (t : Bool) (range : Range) → (t ≡ true → bad_bounds range ≡ false) → bad_bounds_for (cond t BlockLinearU16 F32) range ≡ false
bounds-pass true range h = h refl
bounds-pass false range h = refl

-- ---- the reader's answer

module _ (bytes : List ℕ) {header : Header} (read : read_record_of bytes ≡ value header) where
  -- 'the listed conditions are the sole ones': what is read meets them all
  pub read_accepts : Accepted bytes
  read_accepts =
      let all = first-all (record_checks bytes) (value (header_of bytes)) (read-passed bytes read).1 in
      let defined = or-false _ _ all.1.0 in
      let above = eqb-false (dim_of bytes) 0 all.1.1.0 in
      let even = eqb-false (dim_of bytes % 2) 1 all.1.1.1.0 in
      let bits = bits-told (has_signs (map_of bytes)) (bits_of bytes) all.1.1.1.1.1.0 in
      record {
        long = ltb-false (length bytes) 6 all.0;
        map = ltb-false 7 (map_of bytes) defined.0;
        norm_beside = beside-told (has_norm (map_of bytes)) (has_signs (map_of bytes)) defined.1;
        above = omega (arith, above);
        even = omega (arith, even);
        most = ltb-false 4096 (dim_of bytes) all.1.1.1.1.0;
        least_bits = bits.0;
        most_bits = bits.1.0;
        residual_bits = bits.1.1;
        header = ltb-false (length bytes) (header_length (map_of bytes)) all.1.1.1.1.1.1.0;
        projections = projections-told (has_signs (map_of bytes)) (projections_of bytes) all.1.1.1.1.1.1.1.0;
        total = differs-same (length bytes) (record_length bytes) all.1.1.1.1.1.1.1.1.0;
        bounds = bounds-told (has_range (map_of bytes)) (bounds_of bytes) all.1.1.1.1.1.1.1.1.1.0;
        norm = all.1.1.1.1.1.1.1.1.1.1.0;
        radii = each-clear bad_radius (radii_of bytes) nan all.1.1.1.1.1.1.1.1.1.1.1.0;
        indices = all.1.1.1.1.1.1.1.1.1.1.1.1.0;
        signs = all.1.1.1.1.1.1.1.1.1.1.1.1.1.0;
      }

  -- and the header is the one that the bytes hold
  pub read-header : header ≡ header_of bytes
  read-header = sym (first-value (record_checks bytes) (header_of bytes) (read-passed bytes read).1)

-- an accepted record is no withdrawn position
pub accepted-some : (bytes : List ℕ) → Accepted bytes → is_withdrawn bytes ≡ false
accepted-some bytes a = some_bytes bytes (omega (arith, a.long))

-- an accepted record is read
pub accepted_reads : (bytes : List ℕ) → Accepted bytes → read_record_of bytes ≡ value (header_of bytes)
unfolding read_record_of
accepted_reads bytes a =
    unless-some bytes _ (accepted-some bytes a)
    ∙ first-accepts (record_checks bytes) (value (header_of bytes)) (
      le-ltb (length bytes) 6 a.long,
      (
        rw (le-ltb 7 (map_of bytes) a.map) (beside-pass (has_norm (map_of bytes)) (has_signs (map_of bytes)) a.norm_beside),
        (
          ne_eqb (dim_of bytes) 0 (λ z. omega (arith, z, a.above)),
          (
            ne_eqb (dim_of bytes % 2) 1 (λ z. omega (arith, z, a.even)),
            (
              le-ltb 4096 (dim_of bytes) a.most,
              (
                bits-pass (has_signs (map_of bytes)) (bits_of bytes) a.least_bits a.most_bits a.residual_bits,
                (
                  le-ltb (length bytes) (header_length (map_of bytes)) a.header,
                  (
                    projections-pass (has_signs (map_of bytes)) (projections_of bytes) a.projections,
                    (
                      differs-not (length bytes) (record_length bytes) a.total,
                      (
                        bounds-pass (has_range (map_of bytes)) (bounds_of bytes) a.bounds,
                        (
                          a.norm,
                          (
                            each_none bad_radius (radii_of bytes) nan a.radii,
                            (
                              a.indices,
                              (a.signs, tt),
                            ),
                          ),
                        ),
                      ),
                    ),
                  ),
                ),
              ),
            ),
          ),
        ),
      ),
    )

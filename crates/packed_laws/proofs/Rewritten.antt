-- An accepted record, taken apart and written again: an F32 record gives the same bytes. A linear one gives the same of everything but the range and the radii,
-- whose read values are stated. Bytes are numbers below 256. Assumes nothing.
use Prim.Native.Nat.{ℕ, ◌^◌}
use mathlib.Core.Path.{◌≡◌, refl, sym, ap, ◌∙◌, subst}
use mathlib.Core.Bool.{Bool, true, false, cond}
use mathlib.Core.List.{List, [], ◌∷◌, ◌++◌, map}
use lib.Dec.{T}
use lib.Ieee.{Float, binary32, fits}
use borrow.Author.Tests.{lt-leb}
use lib.IntN.{pos}
use lib.ListN.{length, get_or}
use Rattle.std.specs.Prelude.{None, Some}
use Rattle.error.specs.Answer.{value}
use Rattle.error.specs.Checks.{wrong_room, bad_index}
use Rattle.error.proofs.Chains.{first-all, first-accepts}
use Rattle.error.proofs.Places.{each_none}
use Rattle.digits.proofs.Laws.{Below}
use Rattle.bitpack.specs.Signs.{bad_sketch_sign, sign_bytes}
use Rattle.error.proofs.Differs.{differs-not}
use Rattle.radius.specs.declared.RadiusCodecProfileV1.{RadiusCodecProfileV1}
use Rattle.radius.specs.declared.RadiusCodecProfileV1.TheVariants.{F32, BlockLinearU16}
use Rattle.radius.proofs.RoundTrip.{Floats}
use Rattle.setup.specs.declared.TurboMode.TheVariants.{PolarOnly, PolarWithQjl}
use Rattle.packed.specs.declared.Header.{Header}
use Rattle.packed.specs.Fields.{map_of, has_range, has_signs, has_norm, profile_of, mode_of, bits_of, bounds_of, projections_of, norm_of}
use Rattle.float.specs.Constants.{one}
use Rattle.radius.specs.Radii.{bad_radius}
use Rattle.packed.specs.Layout.{radii_bytes, header_of}
use Rattle.packed.specs.Reading.{radii_of, indices_of, signs_of, record_checks, read_record_of}
use Rattle.packed.specs.Accepted.{Accepted}
use Rattle.packed_size.specs.Size.{norm_value, map_for, bad_norm_alone, needed_for}
use Rattle.bitpack.specs.Packing.{index_bytes}
use Rattle.packed_writing.specs.Writing.{header_bytes, record_of, field_checks, value_checks, write_record_of}
use Rattle.setup.specs.Setups.{counted}
use Rattle.packed.proofs.Accepted.{read_accepts}
use Rattle.packed.proofs.Withdrawn.{read-passed}
use Rattle.packed.proofs.Payloads.{length-radii_of}
use Rattle.packed.proofs.Radii.{radii_fit, norm_fits, length-indices_of, indices-below, length-signs_of, signs_good}
use Rattle.packed_laws.specs.RoundTrips.{SameButRadii, norm_as, code_as}
use Rattle.packed_laws.proofs.Inputs.{written}
use Rattle.packed_laws.proofs.Fields.{map-written, dim-written, bits-written, projections-written, bounds-written, norm-written, norm_part-written, length-written}
use Rattle.packed_laws.proofs.Payloads.{floats-read_back, radii-written, indices_bytes-written, signs_bytes-written}
use Rattle.packed_laws.proofs.TakenApart.{code_of, map-again, norm-again, indices-again, signs-again, parts_again, floats-again}

either-counted : (t : Bool) (n : ℕ) → counted (cond t PolarWithQjl PolarOnly) (cond t n 0) ≡ cond t n 0
either-counted true n = refl
either-counted false n = refl

-- without signs no projections are counted
counted-again : (bytes : List ℕ) → counted (mode_of (map_of bytes)) (projections_of bytes) ≡ projections_of bytes
unfolding projections_of
counted-again bytes = either-counted (has_signs (map_of bytes)) _

either-norm : (t : Bool) (x : Float) → norm_value (cond t (Some (cond t x (one false))) None) ≡ cond t x (one false)
either-norm true x = refl
either-norm false x = refl

-- the norm that is written again is the one that is read
norm_value-again : (bytes : List ℕ) → norm_value (norm_as bytes) ≡ norm_of bytes
unfolding norm_of
norm_value-again bytes = either-norm (has_norm (map_of bytes)) _

either-beside : (n s : Bool) (x : Float) → (n ≡ true → s ≡ true) → bad_norm_alone (cond s PolarWithQjl PolarOnly) (cond n (Some x) None) ≡ false
either-beside true s x h = rw (h refl)
either-beside false true x h = refl
either-beside false false x h = refl

-- and a norm stands beside signs
beside-again : (bytes : List ℕ) → Accepted bytes → bad_norm_alone (mode_of (map_of bytes)) (norm_as bytes) ≡ false
beside-again bytes a = either-beside (has_norm (map_of bytes)) (has_signs (map_of bytes)) (norm_of bytes) a.norm_beside

-- the record's length is the one that writing it needs
needed-again : (bytes : List ℕ) → Accepted bytes → needed_for (code_of bytes) ≡ length bytes
needed-again bytes a = rw (map-again (map_of bytes) (norm_of bytes) a.map, counted-again bytes) (sym a.total)

-- the radii of a record are f32
radii-floats : (bytes : List ℕ) → Floats (radii_of bytes)
radii-floats bytes = record { at = radii_fit bytes }

module _ (bytes : List ℕ) (b : Below 256 bytes) {header : Header} (read : read_record_of bytes ≡ value header) where
  -- the profile of a record without a range
  plain-profile : has_range (map_of bytes) ≡ false → profile_of (map_of bytes) ≡ F32
  plain-profile plain = ap (λ (t : Bool). cond t BlockLinearU16 F32) plain

  record-again : has_range (map_of bytes) ≡ false → record_of (code_as F32 bytes) (radii_of bytes) (indices_of bytes) (signs_of bytes) ≡ bytes
  unfolding record_of header_bytes
  record-again plain =
      let a = read_accepts bytes read in
      let payload = index_bytes (bits_of bytes) (indices_of bytes) ++ sign_bytes (signs_of bytes) in
      let range = bounds_of bytes in
      ap (λ (l : List ℕ). header_bytes (code_as F32 bytes) range ++ (l ++ payload)) (floats-again bytes b a plain)
      ∙ ap (λ (p : RadiusCodecProfileV1). header_bytes (code_as p bytes) range ++ (radii_bytes bytes ++ payload)) (sym (plain-profile plain))
      ∙ parts_again bytes b a

  -- an accepted F32 record, taken apart and written again, gives the same bytes
  pub rewritten : has_range (map_of bytes) ≡ false → write_record_of (code_as F32 bytes) (radii_of bytes) (indices_of bytes) (signs_of bytes) (length bytes) ≡ value bytes
  unfolding write_record_of
  rewritten plain =
      let a = read_accepts bytes read in
      let all = first-all (record_checks bytes) (value (header_of bytes)) (read-passed bytes read).1 in
      let again = record_of (code_as F32 bytes) (radii_of bytes) (indices_of bytes) (signs_of bytes) in
      let good = all.1.1.1.1.1.1.1.1.1.1.1.0 in
      first-accepts
      (field_checks (code_as F32 bytes) (length (radii_of bytes)) (length (indices_of bytes)) (length (signs_of bytes))
      ++ value_checks F32 (bits_of bytes) (norm_as bytes) (radii_of bytes) (indices_of bytes) (signs_of bytes)
      ++ (wrong_room (length bytes) (needed_for (code_as F32 bytes)) ∷ []))
      (value again) (
        refl,
        (
          beside-again bytes a,
          (
            all.1.1.0,
            (
              all.1.1.1.0,
              (
                all.1.1.1.1.0,
                (
                  all.1.1.1.1.1.0,
                  (
                    all.1.1.1.1.1.1.1.0,
                    (
                      differs-not _ _ (length-radii_of bytes),
                      (
                        differs-not _ _ (length-indices_of bytes),
                        (
                          differs-not _ _ (length-signs_of bytes ∙ sym (counted-again bytes)),
                          (
                            ap bad_radius (norm_value-again bytes) ∙ a.norm,
                            (
                              good,
                              (
                                rw (floats-read_back (radii_of bytes) (radii-floats bytes)) good,
                                (
                                  each_none (bad_index (bits_of bytes)) (indices_of bytes) 0 (λ i h. lt-leb (2 ^ bits_of bytes) (get_or (indices_of bytes) i 0) ((indices-below bytes).at i h)),
                                  (
                                    each_none bad_sketch_sign (signs_of bytes) (pos 0) (signs_good bytes),
                                    (differs-not _ _ (sym (needed-again bytes a) ∙ rw (plain-profile plain)), tt),
                                  ),
                                ),
                              ),
                            ),
                          ),
                        ),
                      ),
                    ),
                  ),
                ),
              ),
            ),
          ),
        ),
      )
      ∙ ap value (record-again plain)

-- ---- linear records

module _ (bytes : List ℕ) (b : Below 256 bytes) {header : Header} (read : read_record_of bytes ≡ value header) (linear : has_range (map_of bytes) ≡ true) where
  linear-profile : profile_of (map_of bytes) ≡ BlockLinearU16
  linear-profile = ap (λ (t : Bool). cond t BlockLinearU16 F32) linear

  -- an accepted linear record is the bytes of its header, of its radii, and of its packed indices and signs
  pub linear-parts : header_bytes (code_as BlockLinearU16 bytes) (bounds_of bytes) ++ (radii_bytes bytes ++ (index_bytes (bits_of bytes) (indices_of bytes) ++ sign_bytes (signs_of bytes))) ≡ bytes
  linear-parts =
      ap (λ (p : RadiusCodecProfileV1). header_bytes (code_as p bytes) (bounds_of bytes) ++ (radii_bytes bytes ++ (index_bytes (bits_of bytes) (indices_of bytes) ++ sign_bytes (signs_of bytes)))) (sym linear-profile)
      ∙ parts_again bytes b (read_accepts bytes read)

  -- taken apart and written again it keeps everything but the range and the radii's bytes
  pub rewritten_linear : (room : ℕ) {again : List ℕ}
      → write_record_of (code_as BlockLinearU16 bytes) (radii_of bytes) (indices_of bytes) (signs_of bytes) room ≡ value again → SameButRadii bytes again
  rewritten_linear room told =
      let a = read_accepts bytes read in
      let w = written (code_as BlockLinearU16 bytes) (radii_of bytes) (indices_of bytes) (signs_of bytes) room told in
      let same : map_for BlockLinearU16 (mode_of (map_of bytes)) (norm_as bytes) ≡ map_of bytes = ap (λ (p : RadiusCodecProfileV1). map_for p (mode_of (map_of bytes)) (norm_as bytes)) (sym linear-profile) ∙ map-again (map_of bytes) (norm_of bytes) a.map in
      let needed = ap (λ (p : RadiusCodecProfileV1). needed_for (code_as p bytes)) (sym linear-profile) ∙ needed-again bytes a in
      record {
        map_same = map-written w ∙ same;
        dim_same = dim-written w;
        bits_same = bits-written w;
        projections_same = projections-written w ∙ counted-again bytes;
        norm_same = norm-written w (subst (λ (x : Float). T (fits binary32 x)) (sym (norm_value-again bytes)) (norm_fits bytes)) ∙ norm_value-again bytes;
        norm_bytes_same = norm_part-written w ∙ norm-again bytes b a (has_norm (map_of bytes)) refl;
        length_same = length-written w ∙ w.sized ∙ needed;
        indices_same = indices_bytes-written w ∙ indices-again bytes b a;
        signs_same = signs_bytes-written w ∙ signs-again bytes b a;
        range_read = bounds-written w (radii-floats bytes);
        radii_read = radii-written w (radii-floats bytes);
      }

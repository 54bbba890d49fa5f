-- Radii that pass as they are: as linear radii each would be read back as a number or as plus infinity, so that 16 in writing them names one that reads as infinite;
-- F32 radii come back as they are and are never refused. Assumes nothing.
use Prim.Native.Nat.{ℕ, ◌^◌, ◌≤◌, ◌<◌}
use mathlib.Core.Path.{◌≡◌, refl, sym, ap, ◌∙◌, subst}
use mathlib.Core.Bool.{Bool, true, false, true≢false}
use mathlib.Core.List.{List, [], ◌∷◌, ◌++◌}
use native.Mathlib.Omega.{arith}
use borrow.Author.Tests.{ltb-true}
use lib.Dec.{ltb}
use lib.IntN.{ℤ}
use lib.ListN.{length, get_or}
use lib.Ieee.{Float, nan, inf}
use Rattle.error.specs.Answer.{refused, each, place}
use Rattle.error.specs.Checks.{wrong_room, bad_index}
use Rattle.error.proofs.Places.{each_none}
use Rattle.digits.specs.Digits.{number}
use Rattle.digits.proofs.Laws.{length_digits, digits-below, number_lt}
use Rattle.bitpack.specs.Signs.{bad_sketch_sign}
use Rattle.radius.specs.Codec.{bad_profile}
use Rattle.radius.specs.Firsts.{read_back}
use Rattle.radius.specs.Linear.{quantize_radius_of, span_of, linear_bytes}
use Rattle.radius.specs.Radii.{bad_radius, GoodRadii, range_of, wrong_norm}
use Rattle.radius.proofs.Linear.{linear-back}
use Rattle.radius.specs.declared.Range.{Range}
use Rattle.radius.specs.declared.RadiusCodecProfileV1.{RadiusCodecProfileV1}
use Rattle.radius.specs.declared.RadiusCodecProfileV1.TheVariants.{F32, BlockLinearU16, BlockLogU8}
use Rattle.packed.specs.declared.Code.{Code}
use Rattle.packed_size.specs.Size.{norm_value, needed_for}
use Rattle.packed_writing.specs.Writing.{record_of, field_checks, write_record_of}
use Rattle.packed_writing.proofs.Written.{length-read_back}
use Rattle.packed_laws.proofs.Ranges.{max-fits, range-good}
use Rattle.packed_laws.proofs.Payloads.{floats-read_back}
use Rattle.packed_laws.proofs.LinearRadius.{linear_radius-infinite}
use Rattle.packed_laws.proofs.Refused.{refused-second, place-offends}

-- ---- linear radii

-- the number of a radius, from its two bytes
linear-small : (range : Range) (r : Float) → number 256 (linear_bytes range r) ≤ 65535
unfolding linear_bytes
linear-small range r =
    let n = quantize_radius_of range.min (span_of range) r in
    let small : number 256 (linear_bytes range r) < 256 ^ 2 = subst (λ (k : ℕ). number 256 (linear_bytes range r) < 256 ^ k) (length_digits 256 2 n) (number_lt 256 (linear_bytes range r) (digits-below 256 2 n (omega arith))) in
    omega (arith, small)

module _ (radii : List Float) (g : GoodRadii radii) where
  -- one that is refused as it would be read back reads as infinite
  linear-back-infinite : (i : ℕ) → i < length radii → bad_radius (get_or (read_back BlockLinearU16 radii) i nan) ≡ true → get_or (read_back BlockLinearU16 radii) i nan ≡ inf false
  linear-back-infinite i h =
      let range = range_of radii in
      let two = linear_bytes range (get_or radii i nan) in
      rw (linear-back radii i h) (linear_radius-infinite range two (max-fits radii (record { at = g.fit })) (range-good radii g.good) (linear-small range (get_or radii i nan)))

  -- ---- the search over the radii as they would be read back

  back-linear : (profile : RadiusCodecProfileV1) → bad_profile profile ≡ false → ltb (place bad_radius (read_back profile radii)) (length (read_back profile radii)) ≡ true → profile ≡ BlockLinearU16
  back-linear F32 known found =
      let same = floats-read_back radii (record { at = g.fit }) in
      let none = each_none bad_radius radii nan g.good in
      absurd (true≢false (sym (rw same at found) ∙ none))
  back-linear BlockLinearU16 known found = refl
  back-linear BlockLogU8 known found = absurd (true≢false known)

  back-infinite : ltb (place bad_radius (read_back BlockLinearU16 radii)) (length (read_back BlockLinearU16 radii)) ≡ true → get_or (read_back BlockLinearU16 radii) (place bad_radius (read_back BlockLinearU16 radii)) nan ≡ inf false
  back-infinite found =
      let back = read_back BlockLinearU16 radii in
      let below : place bad_radius back < length back = ltb-true (place bad_radius back) (length back) found in
      linear-back-infinite (place bad_radius back) (omega (arith, below, length-read_back BlockLinearU16 radii refl)) (place-offends bad_radius back nan below)

  -- ---- the writer's refusal

  module _ (code : Code) (indices : List ℕ) (signs : List ℤ) (room p : ℕ) (told : write_record_of code radii indices signs room ≡ refused 16 p) where
    second : (bad_profile code.profile ≡ false) × ((ltb (place bad_radius (read_back code.profile radii)) (length (read_back code.profile radii)) ≡ true) × (place bad_radius (read_back code.profile radii) ≡ p))
    unfolding write_record_of
    second =
        let back = read_back code.profile radii in
        let behind = each (bad_index code.bits) 15 indices ∷ each bad_sketch_sign 10 signs ∷ wrong_room room (needed_for code) ∷ [] in
        let found =
        refused-second
        (record_of code radii indices signs)
        (field_checks code (length radii) (length indices) (length signs) ++ (wrong_norm (norm_value code.norm) ∷ []))
        (ltb (place bad_radius radii) (length radii))
        (ltb (place bad_radius back) (length back))
        16
        (place bad_radius radii)
        (place bad_radius back)
        behind
        (tt, (tt, (tt, (tt, (tt, (tt, (tt, (tt, (tt, (tt, (tt, tt)))))))))))
        (tt, (tt, (tt, tt)))
        (each_none bad_radius radii nan g.good)
        told
        in
        (found.0.0, found.1)

    pub written-linear : code.profile ≡ BlockLinearU16
    written-linear = back-linear code.profile second.0 second.1.0

    pub written-infinite : get_or (read_back BlockLinearU16 radii) p nan ≡ inf false
    written-infinite =
        let found = rw written-linear at second.1 in
        subst (λ (i : ℕ). get_or (read_back BlockLinearU16 radii) i nan ≡ inf false) found.1 (back-infinite found.0)

    pub written-not-plain : code.profile ≡ F32 → ⊥
    written-not-plain plain = plain-linear (sym plain ∙ written-linear)
      where
        plain-linear : F32 ≡ BlockLinearU16 → ⊥
        plain-linear e = let z : true ≡ false = ap linear e in true≢false z
          where
            linear : RadiusCodecProfileV1 → Bool
            linear F32 = true
            linear BlockLinearU16 = false
            linear BlockLogU8 = false

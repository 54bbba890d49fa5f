-- What the writer's codecs answer once their inputs have passed: each payload, and the checks that are left. Assumes nothing.
use Prim.Native.Nat.{ℕ, ◌+◌, ◌-◌, ◌*◌, ◌/◌, ◌^◌, ◌≤◌}
use mathlib.Core.Path.{◌≡◌, refl, ◌∙◌}
use mathlib.Core.Bool.{false}
use mathlib.Core.List.{List, [], ◌∷◌}
use borrow.Author.Tests.{le-ltb, eq-eqb}
use lib.Dec.{ltb}
use lib.IntN.{ℤ}
use lib.ListN.{length, length-append}
use Rattle.std.specs.Prelude.{None, Option, Some}
use Rattle.digits.proofs.Laws.{length_digits}
use Rattle.float.specs.Bytes.{to_le_bytes}
use Rattle.float.proofs.Bytes.{length-to_le_bytes}
use lib.Ieee.{Float}
use Rattle.error.specs.Answer.{Answer, value, refused, place, first, each, accepted}
use Rattle.error.proofs.Chains.{append-refused, append-passed}
use Rattle.bitpack.specs.Padding.{bytes_for}
use Rattle.error.specs.Checks.{bad_index}
use Rattle.bitpack.specs.Packing.{pack_indices_of, index_bytes}
use Rattle.bitpack.specs.Signs.{bad_sketch_sign, pack_signs_of, sign_bytes}
use Rattle.radius.specs.Codec.{bad_profile, width_of, compress_checks}
use Rattle.radius.specs.Radii.{bad_radius}
use Rattle.radius.specs.declared.Range.{Range}
use Rattle.radius.specs.declared.RadiusCodecProfileV1.{RadiusCodecProfileV1}
use Rattle.radius.specs.declared.RadiusCodecProfileV1.TheVariants.{F32, BlockLinearU16, BlockLogU8}
use Rattle.setup.specs.declared.TurboMode.{TurboMode}
use Rattle.setup.specs.declared.TurboMode.TheVariants.{PolarOnly, PolarWithQjl}
use Rattle.setup.specs.Setups.{by_mode, counted}
use Rattle.packed.specs.declared.Code.{Code}
use Rattle.packed_size.specs.Size.{by_profile, by_norm, code_checks}
use Rattle.packed_writing.specs.Writing.{range_bytes, projection_bytes, norm_bytes, length_checks, field_checks}

-- ---- the scalars' checks leave those of the lengths

module _ {A : Type 0} (code : Code) (radii indices signs : ℕ) (size : ℕ) (b : Answer A) where
  pub fields-code : {n p : ℕ} → first (code_checks code) (value size) ≡ refused n p → first (field_checks code radii indices signs) b ≡ refused n p
  fields-code e = append-refused (code_checks code) (length_checks (code.dim / 2) (counted code.mode code.projections) radii indices signs) size b e

  pub fields-rest : {n : ℕ} → first (code_checks code) (value size) ≡ value n → first (field_checks code radii indices signs) b ≡ first (length_checks (code.dim / 2) (counted code.mode code.projections) radii indices signs) b
  fields-rest e = append-passed (code_checks code) (length_checks (code.dim / 2) (counted code.mode code.projections) radii indices signs) size b e

-- ---- radii

module _ (radii : List Float) (profile : RadiusCodecProfileV1) (room : ℕ) (known : bad_profile profile ≡ false) (exact : room ≡ width_of profile * length radii) where
  pub radii-pass : ltb (place bad_radius radii) (length radii) ≡ false → first (compress_checks radii profile room) accepted ≡ accepted
  radii-pass good = rw (good, known, eq-eqb _ _ exact)

-- ---- indices

module _ (indices : List ℕ) (bits room : ℕ) (least : 1 ≤ bits) (most : bits ≤ 16) (fits : length indices * bits ≤ 2 ^ 64 - 1) (exact : room ≡ bytes_for (length indices * bits)) where
  indices-left : pack_indices_of indices bits room ≡ first (each (bad_index bits) 15 indices ∷ []) (value (index_bytes bits indices))
  unfolding pack_indices_of
  indices-left = rw (le-ltb bits 1 least, le-ltb 16 bits most, le-ltb (2 ^ 64 - 1) (length indices * bits) fits, eq-eqb _ _ exact)

  pub indices-pass : ltb (place (bad_index bits) indices) (length indices) ≡ false → pack_indices_of indices bits room ≡ value (index_bytes bits indices)
  indices-pass good = indices-left ∙ rw good

-- ---- signs

module _ (signs : List ℤ) (room : ℕ) (exact : room ≡ bytes_for (length signs)) where
  signs-left : pack_signs_of signs room ≡ first (each bad_sketch_sign 10 signs ∷ []) (value (sign_bytes signs))
  unfolding pack_signs_of
  signs-left = rw (eq-eqb _ _ exact)

  pub signs-pass : ltb (place bad_sketch_sign signs) (length signs) ≡ false → pack_signs_of signs room ≡ value (sign_bytes signs)
  signs-pass good = signs-left ∙ rw good

-- ---- the bytes of the range, of the projections and of the norm

pub range-long : (profile : RadiusCodecProfileV1) (range : Range) → length (range_bytes profile range) ≡ by_profile profile 0 8
range-long F32 range = refl
range-long BlockLinearU16 range = length-append (to_le_bytes range.min) (to_le_bytes range.max) ∙ rw (length-to_le_bytes range.min, length-to_le_bytes range.max)
range-long BlockLogU8 range = refl

pub projection-long : (mode : TurboMode) (m : ℕ) → length (projection_bytes mode m) ≡ by_mode mode 0 4
projection-long PolarOnly m = refl
projection-long PolarWithQjl m = length_digits 256 4 m

pub norm-long : (norm : Option Float) → length (norm_bytes norm) ≡ by_norm norm 0 (λ x. 4)
norm-long None = refl
norm-long (Some x) = length-to_le_bytes x

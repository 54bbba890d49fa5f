-- Without a norm a record is read and written by document 01's list of checks, in which 4 is request h)'s, and has its bytes. Assumes nothing.
use Prim.Native.Nat.{ℕ}
use mathlib.Core.Path.{◌≡◌, refl, ap, ◌∙◌}
use mathlib.Core.Bool.{Bool, true, false, cond, ◌||◌}
use mathlib.Core.List.{List, ◌∷◌, [], ◌++◌, append-nil}
use native.Mathlib.Nat.{add-zero}
use native.Mathlib.Omega.{arith}
use borrow.Author.Tests.{lt-ltb, le-ltb, ltb-true, ltb-false, eqb-false}
use lib.Dec.{ltb}
use lib.IntN.{ℤ}
use lib.Ieee.{Float}
use Rattle.std.specs.Prelude.{None}
use Rattle.digits.specs.Digits.{digits}
use Rattle.error.specs.Answer.{Answer, value, first}
use Rattle.float.specs.Constants.{one}
use Rattle.radius.specs.Codec.{range_for, payload_for}
use Rattle.radius.proofs.Radii.{one-good}
use Rattle.radius.specs.declared.RadiusCodecProfileV1.{RadiusCodecProfileV1}
use Rattle.setup.specs.declared.TurboMode.{TurboMode}
use Rattle.setup.specs.declared.TurboMode.TheVariants.{PolarOnly, PolarWithQjl}
use Rattle.bitpack.specs.Packing.{index_bytes}
use Rattle.bitpack.specs.Signs.{sign_bytes}
use Rattle.packed.specs.declared.Code.{Code}
use Rattle.packed.specs.Fields.{map_of, norm_bit, has_norm, float_at, norm_start, norm_of}
use Rattle.packed.specs.Layout.{header_length, header_of}
use Rattle.packed.specs.Reading.{bad_map, unless_withdrawn, record_checks, read_record_of}
use Rattle.packed_size.specs.Size.{map_for, bad_norm_alone, needed_for, record_size_of}
use Rattle.packed_size.proofs.Maps.{map-tells}
use Rattle.packed_writing.specs.Writing.{range_bytes, projection_bytes, header_bytes, record_of, write_record_of}
use Rattle.packed_laws.specs.WithoutNorm.{former_header_length, former_record_checks, former_map_for, former_needed_for, former_code_checks, former_write_checks, former_record_of, WithoutNorm}

-- ---- reading

module _ (map : ℕ) (none : has_norm map ≡ false) where
  no-bit : norm_bit map ≡ 0
  no-bit = let z = eqb-false (norm_bit map) 1 none in omega (arith, z)

  length_same : header_length map ≡ former_header_length map
  length_same = let z = no-bit in omega (arith, z)

module _ (bytes : List ℕ) (none : has_norm (map_of bytes) ≡ false) where
  start-same : header_length (map_of bytes) ≡ former_header_length (map_of bytes)
  start-same = length_same (map_of bytes) none

  map_same : bad_map (map_of bytes) ≡ ltb 3 (map_of bytes)
  map_same = rw none (split (ltb 3 (map_of bytes)) refl)
    where
      split : (t : Bool) → ltb 3 (map_of bytes) ≡ t → ltb 7 (map_of bytes) || false ≡ t
      split true e = let h = ltb-true 3 (map_of bytes) e in let z = no-bit (map_of bytes) none in rw (lt-ltb 7 (map_of bytes) (omega (arith, h, z)))
      split false e = let h = ltb-false 3 (map_of bytes) e in rw (le-ltb 7 (map_of bytes) (omega (arith, h)))

  pub norm-absent : norm_of bytes ≡ one false
  unfolding norm_of
  norm-absent = ap (λ (t : Bool). cond t (float_at bytes (norm_start (map_of bytes))) (one false)) none

  pub checks-same : {A : Type 0} (a : Answer A) → first (record_checks bytes) a ≡ first (former_record_checks bytes) a
  checks-same a = rw (map_same, start-same, norm-absent, one-good)

  read_same : read_record_of bytes ≡ unless_withdrawn bytes (first (former_record_checks bytes) (value (header_of bytes)))
  unfolding read_record_of
  read_same = ap (unless_withdrawn bytes) (checks-same (value (header_of bytes)))

-- ---- writing

former-long : (profile : RadiusCodecProfileV1) (mode : TurboMode) → header_length (map_for profile mode None) ≡ former_header_length (former_map_for profile mode)
former-long profile mode = length_same (map_for profile mode None) (map-tells profile mode None).given ∙ ap former_header_length (add-zero (former_map_for profile mode))

former-beside : (mode : TurboMode) → bad_norm_alone mode None ≡ false
former-beside PolarOnly = refl
former-beside PolarWithQjl = refl

module _ (code : Code) (absent : code.norm ≡ None) where
  needed-same : needed_for code ≡ former_needed_for code
  needed-same = rw (absent, former-long code.profile code.mode)

  beside_same : bad_norm_alone code.mode code.norm ≡ false
  beside_same = rw absent (former-beside code.mode)

  size_same : record_size_of code ≡ first (former_code_checks code) (value (former_needed_for code))
  unfolding record_size_of
  size_same = rw (beside_same, needed-same)

  module _ (radii : List Float) (indices : List ℕ) (signs : List ℤ) where
    bytes_same : record_of code radii indices signs ≡ former_record_of code radii indices signs
    unfolding record_of header_bytes
    bytes_same =
        let head = former_map_for code.profile code.mode ∷ digits 256 4 code.dim ++ (code.bits ∷ []) ++ range_bytes code.profile (range_for code.profile radii) ++ projection_bytes code.mode code.projections in
        rw (absent, add-zero) (ap (λ (l : List ℕ). l ++ (payload_for code.profile radii ++ (index_bytes code.bits indices ++ sign_bytes signs))) (append-nil head))

    write_same : (room : ℕ) → write_record_of code radii indices signs room ≡ first (former_write_checks code radii indices signs room) (value (former_record_of code radii indices signs))
    unfolding write_record_of
    write_same room = rw (beside_same, needed-same, bytes_same) (rw (absent, one-good))

pub without-norm : WithoutNorm
without-norm = record {
  read_kept = λ bytes none. read_same bytes none;
  checks_kept = λ bytes a none. checks-same bytes none a;
  start_kept = λ bytes none. start-same bytes none;
  norm_one = λ bytes none. norm-absent bytes none;
  size_kept = λ code absent. size_same code absent;
  write_kept = λ code radii indices signs room absent. write_same code absent radii indices signs room;
}

-- The fields of a record that was written are read back: the map byte, the dimension, the bits, the projections, the range and the norm. Assumes nothing.
use Prim.Native.Nat.{ℕ, ◌*◌, ◌^◌, ◌<◌}
use mathlib.Core.Path.{◌≡◌, refl, ◌∙◌}
use mathlib.Core.Bool.{false, true≢false}
use mathlib.Core.List.{List}
use native.Mathlib.Nat.{mod-eq_of_lt}
use native.Mathlib.Omega.{arith}
use lib.IntN.{ℤ}
use lib.Dec.{T}
use lib.Ieee.{Float, binary32, fits}
use Rattle.std.specs.Prelude.{None, Option, Some}
use Rattle.digits.specs.Digits.{number, digits}
use Rattle.digits.proofs.Laws.{number_digits}
use Rattle.float.specs.Bytes.{to_le_bytes}
use Rattle.float.proofs.Bytes.{of_le_bytes-to_le_bytes}
use Rattle.radius.specs.Codec.{bad_profile, range_for}
use Rattle.radius.specs.Radii.{range_of}
use Rattle.radius.specs.declared.Range.{Range}
use Rattle.radius.specs.declared.RadiusCodecProfileV1.{RadiusCodecProfileV1}
use Rattle.radius.specs.declared.RadiusCodecProfileV1.TheVariants.{F32, BlockLinearU16, BlockLogU8}
use Rattle.setup.specs.Setups.{counted}
use Rattle.setup.specs.declared.TurboMode.{TurboMode}
use Rattle.setup.specs.declared.TurboMode.TheVariants.{PolarOnly, PolarWithQjl}
use Rattle.packed.specs.declared.Code.{Code}
use Rattle.packed.specs.Fields.{map_of, norm_bit, dim_of, bits_of, bounds_of, projections_of, norm_start, norm_of}
use Rattle.packed.specs.Layout.{part_at}
use Rattle.packed_size.specs.Size.{norm_value, map_for, bad_norm_alone}
use Rattle.packed_writing.specs.Writing.{norm_bytes, header_bytes, record_of}

-- four bytes hold a number below 2^32
word_back : (n : ℕ) → n < 2 ^ 32 → number 256 (digits 256 4 n) ≡ n
word_back n h = number_digits 256 4 n (omega arith) ∙ mod-eq_of_lt h

range_same : {a b : Float} {range : Range} → a ≡ range.min → b ≡ range.max → ◌≡◌ {A = Range} (record { min = a; max = b }) range
range_same p q = λ i. record { min = p i; max = q i }

module _ (code : Code) (radii : List Float) (indices : List ℕ) (signs : List ℤ) where
  pub map_back : map_of (record_of code radii indices signs) ≡ map_for code.profile code.mode code.norm
  unfolding record_of header_bytes
  map_back = refl

  pub dim-back : code.dim < 2 ^ 32 → dim_of (record_of code radii indices signs) ≡ code.dim
  unfolding record_of header_bytes digits
  dim-back h = word_back code.dim h

  pub bits_back : bits_of (record_of code radii indices signs) ≡ code.bits
  unfolding record_of header_bytes digits
  bits_back = refl

  -- ---- the projections that count, the range and the norm, by the profile, the mode and the norm

  abbrev coded : RadiusCodecProfileV1 → TurboMode → Option Float → Code
  coded p o n = record { profile = p; mode = o; dim = code.dim; bits = code.bits; projections = code.projections; norm = n }

  pub projections-back : counted code.mode code.projections < 2 ^ 32 → projections_of (record_of code radii indices signs) ≡ counted code.mode code.projections
  unfolding record_of header_bytes projections_of digits to_le_bytes
  projections-back = cases code.profile code.mode code.norm
    where
      cases : (p : RadiusCodecProfileV1) (o : TurboMode) (n : Option Float) → counted o code.projections < 2 ^ 32 → projections_of (record_of (coded p o n) radii indices signs) ≡ counted o code.projections
      cases F32 PolarOnly None h = refl
      cases F32 PolarOnly (Some x) h = refl
      cases F32 PolarWithQjl None h = word_back code.projections h
      cases F32 PolarWithQjl (Some x) h = word_back code.projections h
      cases BlockLinearU16 PolarOnly None h = refl
      cases BlockLinearU16 PolarOnly (Some x) h = refl
      cases BlockLinearU16 PolarWithQjl None h = word_back code.projections h
      cases BlockLinearU16 PolarWithQjl (Some x) h = word_back code.projections h
      cases BlockLogU8 PolarOnly None h = refl
      cases BlockLogU8 PolarOnly (Some x) h = refl
      cases BlockLogU8 PolarWithQjl None h = word_back code.projections h
      cases BlockLogU8 PolarWithQjl (Some x) h = word_back code.projections h

  pub bounds-back : bad_profile code.profile ≡ false → T (fits binary32 (range_of radii).min) → T (fits binary32 (range_of radii).max) → bounds_of (record_of code radii indices signs) ≡ range_for code.profile radii
  unfolding record_of header_bytes bounds_of digits to_le_bytes
  bounds-back = cases code.profile code.mode code.norm
    where
      cases : (p : RadiusCodecProfileV1) (o : TurboMode) (n : Option Float) → bad_profile p ≡ false → T (fits binary32 (range_of radii).min) → T (fits binary32 (range_of radii).max) → bounds_of (record_of (coded p o n) radii indices signs) ≡ range_for p radii
      cases F32 PolarOnly None e least greatest = refl
      cases F32 PolarOnly (Some x) e least greatest = refl
      cases F32 PolarWithQjl None e least greatest = refl
      cases F32 PolarWithQjl (Some x) e least greatest = refl
      cases BlockLinearU16 PolarOnly None e least greatest = range_same (of_le_bytes-to_le_bytes (range_of radii).min least) (of_le_bytes-to_le_bytes (range_of radii).max greatest)
      cases BlockLinearU16 PolarOnly (Some x) e least greatest = range_same (of_le_bytes-to_le_bytes (range_of radii).min least) (of_le_bytes-to_le_bytes (range_of radii).max greatest)
      cases BlockLinearU16 PolarWithQjl None e least greatest = range_same (of_le_bytes-to_le_bytes (range_of radii).min least) (of_le_bytes-to_le_bytes (range_of radii).max greatest)
      cases BlockLinearU16 PolarWithQjl (Some x) e least greatest = range_same (of_le_bytes-to_le_bytes (range_of radii).min least) (of_le_bytes-to_le_bytes (range_of radii).max greatest)
      cases BlockLogU8 o n e least greatest = let z : ◌≡◌ {A = ℕ} 0 1 = cc in absurd (omega arith)

  pub norm-back : bad_norm_alone code.mode code.norm ≡ false → T (fits binary32 (norm_value code.norm)) → norm_of (record_of code radii indices signs) ≡ norm_value code.norm
  unfolding record_of header_bytes norm_of digits to_le_bytes
  norm-back = cases code.profile code.mode code.norm
    where
      cases : (p : RadiusCodecProfileV1) (o : TurboMode) (n : Option Float) → bad_norm_alone o n ≡ false → T (fits binary32 (norm_value n)) → norm_of (record_of (coded p o n) radii indices signs) ≡ norm_value n
      cases F32 PolarOnly None e f = refl
      cases F32 PolarWithQjl None e f = refl
      cases F32 PolarWithQjl (Some x) e f = of_le_bytes-to_le_bytes x f
      cases BlockLinearU16 PolarOnly None e f = refl
      cases BlockLinearU16 PolarWithQjl None e f = refl
      cases BlockLinearU16 PolarWithQjl (Some x) e f = of_le_bytes-to_le_bytes x f
      cases BlockLogU8 PolarOnly None e f = refl
      cases BlockLogU8 PolarWithQjl None e f = refl
      cases BlockLogU8 PolarWithQjl (Some x) e f = of_le_bytes-to_le_bytes x f
      cases p PolarOnly (Some x) e f = absurd (true≢false e)

  -- the norm's bytes
  pub norm_part-back : bad_norm_alone code.mode code.norm ≡ false → part_at (record_of code radii indices signs) (norm_start (map_for code.profile code.mode code.norm)) (4 * norm_bit (map_for code.profile code.mode code.norm)) ≡ norm_bytes code.norm
  unfolding record_of header_bytes digits to_le_bytes
  norm_part-back = cases code.profile code.mode code.norm
    where
      cases : (p : RadiusCodecProfileV1) (o : TurboMode) (n : Option Float) → bad_norm_alone o n ≡ false → part_at (record_of (coded p o n) radii indices signs) (norm_start (map_for p o n)) (4 * norm_bit (map_for p o n)) ≡ norm_bytes n
      cases F32 PolarOnly None e = refl
      cases F32 PolarWithQjl None e = refl
      cases F32 PolarWithQjl (Some x) e = refl
      cases BlockLinearU16 PolarOnly None e = refl
      cases BlockLinearU16 PolarWithQjl None e = refl
      cases BlockLinearU16 PolarWithQjl (Some x) e = refl
      cases BlockLogU8 PolarOnly None e = refl
      cases BlockLogU8 PolarWithQjl None e = refl
      cases BlockLogU8 PolarWithQjl (Some x) e = refl
      cases p PolarOnly (Some x) e = absurd (true≢false e)

-- Document 01's worked records, written: P12 and P13, and the linear record whose radius would read as infinite; a record of dimension 6; then a norm,
-- and refusals. Assumes nothing.
use mathlib.Core.Path.{◌≡◌, refl}
use mathlib.Core.Bool.{true, false}
use mathlib.Core.List.{[], ◌∷◌, flat_map}
use lib.IntN.{pos, negsuc}
use lib.Ieee.{binary32, of_bits, to_bits, add, sub, mul, div, lt, of_int}
use Rattle.std.specs.Prelude.{None, Some}
use Rattle.error.specs.Answer.{value, refused, place}
use Rattle.digits.specs.Digits.{number, digits}
use Rattle.float.specs.Bytes.{of_le_bytes, to_le_bytes}
use Rattle.float.specs.Rounding.{clamped, round_unsigned}
use Rattle.lists.specs.Chunks.{chunks}
use Rattle.float.specs.Constants.{one}
use Rattle.radius.specs.Radii.{least, greatest, range_of}
use Rattle.radius.specs.Linear.{span_of, quantize_radius_of, linear_bytes, radius_of, linear_radius}
use Rattle.radius.specs.declared.RadiusCodecProfileV1.TheVariants.{F32, BlockLinearU16}
use Rattle.setup.specs.declared.TurboMode.TheVariants.{PolarOnly, PolarWithQjl}
use Rattle.packed.proofs.Examples.{bytes12, bytes13, bytes_of6, normed, one_bytes}
use Rattle.packed_writing.specs.Writing.{header_bytes, record_of, write_record_of}
use Rattle.radius.specs.Firsts.{read_back}

pub p12_written : write_record_of (record { profile = F32; mode = PolarOnly; dim = 2; bits = 1; projections = 0; norm = None }) (one false ∷ []) (1 ∷ []) [] 11 ≡ value bytes12
unfolding write_record_of record_of header_bytes read_back place chunks flat_map number digits of_le_bytes to_le_bytes of_bits to_bits lt
p12_written = refl

pub p13_written : write_record_of (record { profile = F32; mode = PolarWithQjl; dim = 2; bits = 1; projections = 3; norm = None }) (one false ∷ []) (1 ∷ []) (pos 1 ∷ negsuc 0 ∷ pos 1 ∷ []) 16 ≡ value bytes13
unfolding write_record_of record_of header_bytes read_back place chunks flat_map number digits of_le_bytes to_le_bytes of_bits to_bits lt
p13_written = refl

-- 'A record may now have any even dimension to 4,096'
pub dimension-6-written : write_record_of (record { profile = F32; mode = PolarOnly; dim = 6; bits = 1; projections = 0; norm = None }) (one false ∷ one false ∷ one false ∷ []) (1 ∷ 0 ∷ 1 ∷ []) [] 19 ≡ value bytes_of6
unfolding write_record_of record_of header_bytes read_back place chunks flat_map number digits of_le_bytes to_le_bytes of_bits to_bits lt
dimension-6-written = refl

-- 'A linear radius that reads as infinite is 16 in reading and in writing': 1.5 × 2^104 and the largest f32, of which the second reads as infinite
pub infinite-written : write_record_of (record { profile = BlockLinearU16; mode = PolarOnly; dim = 4; bits = 1; projections = 0; norm = None }) (of_bits binary32 0x73C0_0000 ∷ of_bits binary32 0x7F7F_FFFF ∷ []) (0 ∷ 0 ∷ []) [] 19 ≡ refused 16 1
unfolding write_record_of read_back place chunks flat_map number digits of_bits lt least greatest range_of round_unsigned clamped span_of quantize_radius_of linear_bytes radius_of linear_radius add sub mul div of_int
infinite-written = refl

-- '16 is refused beside signs', before 8 and 5
pub bits-16-written : write_record_of (record { profile = F32; mode = PolarWithQjl; dim = 2; bits = 16; projections = 0; norm = None }) [] [] [] 0 ≡ refused 1 16
unfolding write_record_of
bits-16-written = refl

-- without signs the projections are ignored, and signs that are lent all the same are 5
pub signs-given : write_record_of (record { profile = F32; mode = PolarOnly; dim = 2; bits = 1; projections = 9999; norm = None }) (one false ∷ []) (1 ∷ []) (pos 1 ∷ []) 11 ≡ refused 5 1
unfolding write_record_of
signs-given = refl

-- P13 with the norm −0.0, which is stored
pub minus-zero-written : write_record_of (record { profile = F32; mode = PolarWithQjl; dim = 2; bits = 1; projections = 3; norm = Some (of_bits binary32 0x8000_0000) }) (one false ∷ []) (1 ∷ []) (pos 1 ∷ negsuc 0 ∷ pos 1 ∷ []) 20 ≡ value (normed (0x00 ∷ 0x00 ∷ 0x00 ∷ 0x80 ∷ []) one_bytes)
unfolding write_record_of record_of header_bytes read_back place chunks flat_map number digits of_le_bytes to_le_bytes of_bits to_bits lt
minus-zero-written = refl

-- '18 at place 0 if it comes without signs', before 2
pub norm_alone-written : write_record_of (record { profile = F32; mode = PolarOnly; dim = 0; bits = 1; projections = 0; norm = Some (one false) }) [] [] [] 0 ≡ refused 18 0
unfolding write_record_of
norm_alone-written = refl

-- 23 'in writing before 16': the norm −1.0, and a radius that offends; 5 comes before it
pub norm-below-written : write_record_of (record { profile = F32; mode = PolarWithQjl; dim = 2; bits = 1; projections = 1; norm = Some (one true) }) (one true ∷ []) (1 ∷ []) (pos 1 ∷ []) 0 ≡ refused 23 0
unfolding write_record_of lt
norm-below-written = refl

pub signs-first-written : write_record_of (record { profile = F32; mode = PolarWithQjl; dim = 2; bits = 1; projections = 1; norm = Some (one true) }) (one true ∷ []) (1 ∷ []) [] 0 ≡ refused 5 0
unfolding write_record_of
signs-first-written = refl

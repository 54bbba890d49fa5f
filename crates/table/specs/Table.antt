-- Document 01's worked cases, P1 to P13, stand here as one table: each row is a definition that contracts cite, at the row's input, and what the document says of
-- it. Its one truth, `table-holds`, covers all rows. Bytes and patterns are hexadecimal, as there. Assumes nothing.
use Rattle.std.specs.Prelude.{ℕ, ◌≤◌, ◌≡◌, true, false, List, [], ◌∷◌, pos, negsuc, Float, None}
use Rattle.std.specs.Float.{fin, binary32}
use Rattle.std.specs.Float.Ieee.{of_bits, to_bits}
use Rattle.error.specs.Answer.{value, refused}
use Rattle.float.specs.SquareRoot.{square_root}
use Rattle.bitpack.specs.Packing.{pack_indices_of, unpack_indices_of}
use Rattle.bitpack.specs.Signs.{pack_signs_of, unpack_signs_of}
use Rattle.radius.specs.Codec.{compress_bytes_of}
use Rattle.float.specs.Constants.{pos_zero, one}
use Rattle.radius.specs.declared.RadiusCodecProfileV1.TheVariants.{F32, BlockLinearU16}
use Rattle.rotation.specs.Rotation.{apply_of}
use Rattle.polar.specs.Angle.{dequantize_angle_of}
use Rattle.setup.specs.declared.TurboMode.TheVariants.{PolarOnly, PolarWithQjl}
use Rattle.packed.specs.Reading.{radii_of, indices_of, signs_of, read_record_of}
use Rattle.packed_writing.specs.Writing.{write_record_of}

abbrev float : ℕ → Float
float bits = of_bits binary32 bits

-- These two are the records of P12 and P13.
abbrev pub without_signs : List ℕ
without_signs = 0x00 ∷ 0x02 ∷ 0x00 ∷ 0x00 ∷ 0x00 ∷ 0x01 ∷ 0x00 ∷ 0x00 ∷ 0x80 ∷ 0x3F ∷ 0x01 ∷ []

abbrev pub with_signs : List ℕ
with_signs = 0x02 ∷ 0x02 ∷ 0x00 ∷ 0x00 ∷ 0x00 ∷ 0x01 ∷ 0x03 ∷ 0x00 ∷ 0x00 ∷ 0x00 ∷ 0x00 ∷ 0x00 ∷ 0x80 ∷ 0x3F ∷ 0x01 ∷ 0x05 ∷ []

pub record Table : Type 0 where
  -- '2 bits, (1, 2, 3): 39.'
  pub p1 : pack_indices_of (1 ∷ 2 ∷ 3 ∷ []) 2 1 ≡ value (0x39 ∷ [])
  -- '79 with count 3: 14, place 0.'
  pub p2 : unpack_indices_of (0x79 ∷ []) 3 2 3 ≡ refused 14 0
  -- '3 bits, (5, 2): 15.'
  pub p3 : pack_indices_of (5 ∷ 2 ∷ []) 3 1 ≡ value (0x15 ∷ [])
  -- '9 bits, (256, 1): 00 03 00.'
  pub p4 : pack_indices_of (256 ∷ 1 ∷ []) 9 3 ≡ value (0x00 ∷ 0x03 ∷ 0x00 ∷ [])
  -- 'Signs (+, −, +): 05.'
  pub p5 : pack_signs_of (pos 1 ∷ negsuc 0 ∷ pos 1 ∷ []) 1 ≡ value (0x05 ∷ [])
  -- '0D with count 3: 14.'
  pub p6 : unpack_signs_of (0x0D ∷ []) 3 3 ≡ refused 14 0
  -- 'No indices: no bytes.'
  pub p7 : (bits : ℕ) → 1 ≤ bits → bits ≤ 16 → pack_indices_of [] bits 0 ≡ value []
  -- '(1, 2, 3, 4), all signs +, gives (5, −1, −2, 0).'
  pub p8 : apply_of 4 (fin false 1 (pos 0) ∷ fin false 1 (pos 0) ∷ fin false 1 (pos 0) ∷ fin false 1 (pos 0) ∷ []) (fin false 1 (pos 0) ∷ fin false 1 (pos 1) ∷ fin false 3 (pos 0) ∷ fin false 1 (pos 2) ∷ []) 4
      ≡ value (fin false 5 (pos 0) ∷ fin true 1 (pos 0) ∷ fin true 1 (pos 1) ∷ fin false 0 (pos 0) ∷ [])
  -- 'The root of 2.0 is 3FB504F3.'
  pub p9 : to_bits binary32 (square_root (float 0x4000_0000)) ≡ 0x3FB5_04F3
  -- 'With 1 bit, index 1 has angle 0.'
  pub p10 : dequantize_angle_of 1 1 ≡ value (fin false 0 (pos 0))
  -- '(0, 0.5, 1): 00 00 00 80 FF FF.'
  pub p11 : compress_bytes_of (float 0x0000_0000 ∷ float 0x3F00_0000 ∷ float 0x3F80_0000 ∷ []) BlockLinearU16 6 ≡ value (0x00 ∷ 0x00 ∷ 0x00 ∷ 0x80 ∷ 0xFF ∷ 0xFF ∷ [])
  -- 'n 2, 1 bit, radius 1.0, index 1: 00 02 00 00 00 01 00 00 80 3F 01.' It is written, and read again.
  pub p12_written : write_record_of (record { profile = F32; mode = PolarOnly; dim = 2; bits = 1; projections = 0; norm = None }) (one false ∷ []) (1 ∷ []) [] 11 ≡ value without_signs
  pub p12_read : read_record_of without_signs ≡ value (record { mode = PolarOnly; profile = F32; dim = 2; bits = 1; projections = 0; range = record { min = pos_zero; max = pos_zero }; has_norm = false; norm = one false; radii_start = 6; indices_start = 10; signs_start = 11; end = 11 })
  pub p12_radii : radii_of without_signs ≡ one false ∷ []
  pub p12_indices : indices_of without_signs ≡ 1 ∷ []
  pub p12_signs : signs_of without_signs ≡ []
  -- 'With signs (+, −, +): 02 02 00 00 00 01 03 00 00 00 00 00 80 3F 01 05.' It is written, and read again.
  pub p13_written : write_record_of (record { profile = F32; mode = PolarWithQjl; dim = 2; bits = 1; projections = 3; norm = None }) (one false ∷ []) (1 ∷ []) (pos 1 ∷ negsuc 0 ∷ pos 1 ∷ []) 16 ≡ value with_signs
  pub p13_read : read_record_of with_signs ≡ value (record { mode = PolarWithQjl; profile = F32; dim = 2; bits = 1; projections = 3; range = record { min = pos_zero; max = pos_zero }; has_norm = false; norm = one false; radii_start = 10; indices_start = 14; signs_start = 15; end = 16 })
  pub p13_radii : radii_of with_signs ≡ one false ∷ []
  pub p13_indices : indices_of with_signs ≡ 1 ∷ []
  pub p13_signs : signs_of with_signs ≡ pos 1 ∷ negsuc 0 ∷ pos 1 ∷ []

-- An accepted linear record whose radii, as read, are refused when they are written linear again: their own range starts higher, and the largest would read as
-- infinite. So 'written again' is a premise of what is said of linear records. And dimensions that request h) moves, and that it does not. Computed. Assumes nothing.
use Prim.Native.Nat.{ℕ}
use mathlib.Core.Path.{◌≡◌, refl}
use mathlib.Core.Bool.{true, false}
use mathlib.Core.List.{List, [], ◌∷◌, map, flat_map}
use lib.Count.{ones, ones_in}
use lib.Ieee.{binary32, of_bits, add, sub, mul, div, lt, of_int}
use Rattle.std.specs.Prelude.{None}
use Rattle.error.specs.Answer.{value, refused, place}
use Rattle.digits.specs.Digits.{number, digits}
use Rattle.float.specs.Bytes.{of_le_bytes}
use Rattle.float.specs.Constants.{pos_zero, one}
use Rattle.float.specs.Rounding.{clamped, round_unsigned}
use Rattle.lists.specs.Chunks.{chunks}
use Rattle.bitpack.specs.Padding.{bad_padding}
use Rattle.radius.specs.Radii.{least, greatest, range_of}
use Rattle.radius.specs.Linear.{span_of, quantize_radius_of, linear_bytes, radius_of, linear_radius}
use Rattle.radius.specs.Firsts.{read_back}
use Rattle.radius.specs.declared.RadiusCodecProfileV1.TheVariants.{BlockLinearU16}
use Rattle.setup.specs.declared.TurboMode.TheVariants.{PolarOnly}
use Rattle.packed.specs.Fields.{bounds_of, projections_of, norm_of}
use Rattle.packed.specs.Layout.{radii_bytes, indices_bytes, signs_bytes, header_of}
use Rattle.packed.specs.Reading.{radii_of, indices_of, read_record_of}
use Rattle.packed_writing.specs.Writing.{write_record_of}
use Rattle.packed_laws.specs.OtherDimensions.{is_moved}

-- n 4, 1 bit, the range from 0 to the largest f32, the numbers 385 and 65,535, the indices 0 and 0
abbrev pub linear_bytes_read : List ℕ
linear_bytes_read = 0x01 ∷ 0x04 ∷ 0x00 ∷ 0x00 ∷ 0x00 ∷ 0x01 ∷ 0x00 ∷ 0x00 ∷ 0x00 ∷ 0x00 ∷ 0xFF ∷ 0xFF ∷ 0x7F ∷ 0x7F ∷ 0x81 ∷ 0x01 ∷ 0xFF ∷ 0xFF ∷ 0x00 ∷ []

pub linear-read : read_record_of linear_bytes_read ≡ value (record { mode = PolarOnly; profile = BlockLinearU16; dim = 4; bits = 1; projections = 0; range = record { min = pos_zero; max = of_bits binary32 0x7F7F_FFFF }; has_norm = false; norm = one false; radii_start = 14; indices_start = 18; signs_start = 19; end = 19 })
unfolding read_record_of header_of radii_of radii_bytes indices_bytes signs_bytes bounds_of projections_of norm_of number place chunks of_le_bytes of_bits lt bad_padding radius_of linear_radius add sub mul div of_int
linear-read = refl

pub linear-again : write_record_of (record { profile = BlockLinearU16; mode = PolarOnly; dim = 4; bits = 1; projections = 0; norm = None }) (radii_of linear_bytes_read) (indices_of linear_bytes_read) [] 19 ≡ refused 16 1
unfolding write_record_of read_back place chunks flat_map number digits of_bits of_le_bytes lt least greatest range_of round_unsigned clamped span_of quantize_radius_of linear_bytes radius_of linear_radius add sub mul div of_int radii_of radii_bytes bounds_of indices_of indices_bytes
linear-again = refl

-- 0, 3, a power of two and 4,098 are answered as they were
pub dimensions-moved : map is_moved (0 ∷ 3 ∷ 6 ∷ 512 ∷ 514 ∷ 4094 ∷ 4096 ∷ 4098 ∷ []) ≡ false ∷ false ∷ true ∷ false ∷ true ∷ true ∷ false ∷ false ∷ []
unfolding ones ones_in
dimensions-moved = refl

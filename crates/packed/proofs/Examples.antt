-- Document 01's worked records, computed: P12 and P13, and the linear record whose radius reads as infinite; a record of dimension 6; records with a norm; then
-- a withdrawn position, and one record for each refusal, in the order of the checks. Bytes are hexadecimal, as there. Assumes nothing.
use Prim.Native.Nat.{ℕ}
use mathlib.Core.Path.{◌≡◌, refl}
use mathlib.Core.Bool.{true, false}
use mathlib.Core.List.{List, [], ◌∷◌, ◌++◌}
use lib.IntN.{pos, negsuc}
use lib.Ieee.{Float, binary32, of_bits, add, sub, mul, div, lt, of_int}
use Rattle.error.specs.Answer.{value, refused, withdrawn, place}
use Rattle.digits.specs.Digits.{number, digits}
use Rattle.float.specs.Bytes.{of_le_bytes}
use Rattle.bitpack.specs.Padding.{bad_padding}
use Rattle.lists.specs.Chunks.{chunks}
use Rattle.float.specs.Constants.{pos_zero, one, two}
use Rattle.radius.specs.Linear.{radius_of, linear_radius}
use Rattle.radius.specs.declared.RadiusCodecProfileV1.TheVariants.{F32}
use Rattle.setup.specs.declared.TurboMode.TheVariants.{PolarOnly, PolarWithQjl}
use Rattle.packed.specs.Fields.{bounds_of, projections_of, norm_of}
use Rattle.packed.specs.Layout.{radii_bytes, indices_bytes, signs_bytes, header_of}
use Rattle.packed.specs.Reading.{radii_of, indices_of, signs_of, read_record_of}
use Rattle.packed.specs.declared.Header.{Header}

-- 'n 2, 1 bit, radius 1.0, index 1: 00 02 00 00 00 01 00 00 80 3F 01.'
abbrev pub bytes12 : List ℕ
bytes12 = 0x00 ∷ 0x02 ∷ 0x00 ∷ 0x00 ∷ 0x00 ∷ 0x01 ∷ 0x00 ∷ 0x00 ∷ 0x80 ∷ 0x3F ∷ 0x01 ∷ []

pub p12 : read_record_of bytes12 ≡ value (record { mode = PolarOnly; profile = F32; dim = 2; bits = 1; projections = 0; range = record { min = pos_zero; max = pos_zero }; has_norm = false; norm = one false; radii_start = 6; indices_start = 10; signs_start = 11; end = 11 })
unfolding read_record_of header_of radii_of radii_bytes indices_bytes signs_bytes bounds_of projections_of norm_of number place chunks of_le_bytes of_bits lt bad_padding
p12 = refl

pub p12_radii : radii_of bytes12 ≡ one false ∷ []
unfolding radii_of radii_bytes bounds_of number chunks of_le_bytes of_bits
p12_radii = refl

pub p12_indices : indices_of bytes12 ≡ 1 ∷ []
unfolding indices_of indices_bytes number digits
p12_indices = refl

pub p12_signs : signs_of bytes12 ≡ []
unfolding signs_of signs_bytes projections_of number digits
p12_signs = refl

-- 'With signs (+, −, +): 02 02 00 00 00 01 03 00 00 00 00 00 80 3F 01 05.'
abbrev pub bytes13 : List ℕ
bytes13 = 0x02 ∷ 0x02 ∷ 0x00 ∷ 0x00 ∷ 0x00 ∷ 0x01 ∷ 0x03 ∷ 0x00 ∷ 0x00 ∷ 0x00 ∷ 0x00 ∷ 0x00 ∷ 0x80 ∷ 0x3F ∷ 0x01 ∷ 0x05 ∷ []

pub p13 : read_record_of bytes13 ≡ value (record { mode = PolarWithQjl; profile = F32; dim = 2; bits = 1; projections = 3; range = record { min = pos_zero; max = pos_zero }; has_norm = false; norm = one false; radii_start = 10; indices_start = 14; signs_start = 15; end = 16 })
unfolding read_record_of header_of radii_of radii_bytes indices_bytes signs_bytes bounds_of projections_of norm_of number place chunks of_le_bytes of_bits lt bad_padding
p13 = refl

pub p13_radii : radii_of bytes13 ≡ one false ∷ []
unfolding radii_of radii_bytes bounds_of number chunks of_le_bytes of_bits
p13_radii = refl

pub p13_indices : indices_of bytes13 ≡ 1 ∷ []
unfolding indices_of indices_bytes number digits
p13_indices = refl

pub p13_signs : signs_of bytes13 ≡ pos 1 ∷ negsuc 0 ∷ pos 1 ∷ []
unfolding signs_of signs_bytes projections_of number digits
p13_signs = refl

-- ---- a dimension that is no power of two: 6, with three radii 1.0 and the indices 1, 0 and 1

abbrev pub bytes_of6 : List ℕ
bytes_of6 = 0x00 ∷ 0x06 ∷ 0x00 ∷ 0x00 ∷ 0x00 ∷ 0x01 ∷ 0x00 ∷ 0x00 ∷ 0x80 ∷ 0x3F ∷ 0x00 ∷ 0x00 ∷ 0x80 ∷ 0x3F ∷ 0x00 ∷ 0x00 ∷ 0x80 ∷ 0x3F ∷ 0x05 ∷ []

pub dimension-6 : read_record_of bytes_of6 ≡ value (record { mode = PolarOnly; profile = F32; dim = 6; bits = 1; projections = 0; range = record { min = pos_zero; max = pos_zero }; has_norm = false; norm = one false; radii_start = 6; indices_start = 18; signs_start = 19; end = 19 })
unfolding read_record_of header_of radii_of radii_bytes indices_bytes signs_bytes bounds_of projections_of norm_of number place chunks of_le_bytes of_bits lt bad_padding
dimension-6 = refl

pub dimension-6-radii : radii_of bytes_of6 ≡ one false ∷ one false ∷ one false ∷ []
unfolding radii_of radii_bytes bounds_of number chunks of_le_bytes of_bits
dimension-6-radii = refl

pub dimension-6-indices : indices_of bytes_of6 ≡ 1 ∷ 0 ∷ 1 ∷ []
unfolding indices_of indices_bytes number digits
dimension-6-indices = refl

-- ---- linear records of one pair, by their range and their two bytes

abbrev linear : List ℕ → List ℕ
linear rest = 0x01 ∷ 0x02 ∷ 0x00 ∷ 0x00 ∷ 0x00 ∷ 0x01 ∷ rest

-- 'min 1.5 × 2^104, max the largest f32, value 65,535': 16
pub infinite-radius : read_record_of (linear (0x00 ∷ 0x00 ∷ 0xC0 ∷ 0x73 ∷ 0xFF ∷ 0xFF ∷ 0x7F ∷ 0x7F ∷ 0xFF ∷ 0xFF ∷ 0x01 ∷ [])) ≡ refused 16 0
unfolding read_record_of radii_of radii_bytes bounds_of projections_of norm_of number place chunks of_le_bytes of_bits lt radius_of linear_radius add sub mul div of_int
infinite-radius = refl

-- the value 0 of the same range is fine
pub finite-radius : radii_of (linear (0x00 ∷ 0x00 ∷ 0xC0 ∷ 0x73 ∷ 0xFF ∷ 0xFF ∷ 0x7F ∷ 0x7F ∷ 0x00 ∷ 0x00 ∷ 0x01 ∷ [])) ≡ of_bits binary32 0x73C0_0000 ∷ []
unfolding radii_of radii_bytes bounds_of number chunks of_le_bytes of_bits radius_of linear_radius add sub mul div of_int
finite-radius = refl

-- 'min above max': from 1 to 0
pub wrong-order : read_record_of (linear (0x00 ∷ 0x00 ∷ 0x80 ∷ 0x3F ∷ 0x00 ∷ 0x00 ∷ 0x00 ∷ 0x00 ∷ 0x00 ∷ 0x00 ∷ 0x01 ∷ [])) ≡ refused 17 0
unfolding read_record_of bounds_of projections_of number of_le_bytes of_bits lt
wrong-order = refl

-- 'minusOneBytes zero': from −1 to 0; `PackedPolarCode::unpack` admits it
pub negative-bound : read_record_of (linear (0x00 ∷ 0x00 ∷ 0x80 ∷ 0xBF ∷ 0x00 ∷ 0x00 ∷ 0x00 ∷ 0x00 ∷ 0x00 ∷ 0x00 ∷ 0x01 ∷ [])) ≡ refused 17 0
unfolding read_record_of bounds_of projections_of number of_le_bytes of_bits lt
negative-bound = refl

-- 13 comes before 17: the same range, one byte short
pub length-first : read_record_of (linear (0x00 ∷ 0x00 ∷ 0x80 ∷ 0xBF ∷ 0x00 ∷ 0x00 ∷ 0x00 ∷ 0x00 ∷ 0x00 ∷ 0x00 ∷ [])) ≡ refused 13 16
unfolding read_record_of bounds_of projections_of number
length-first = refl

-- ---- P13 with a norm, by its four bytes

abbrev pub normed : List ℕ → List ℕ → List ℕ
normed norm radius = 0x06 ∷ 0x02 ∷ 0x00 ∷ 0x00 ∷ 0x00 ∷ 0x01 ∷ 0x03 ∷ 0x00 ∷ 0x00 ∷ 0x00 ∷ norm ++ radius ++ (0x01 ∷ 0x05 ∷ [])

-- 1.0 and −1.0
abbrev pub one_bytes : List ℕ
one_bytes = 0x00 ∷ 0x00 ∷ 0x80 ∷ 0x3F ∷ []

abbrev minus_one_bytes : List ℕ
minus_one_bytes = 0x00 ∷ 0x00 ∷ 0x80 ∷ 0xBF ∷ []

abbrev norm_header : Float → Header
norm_header norm = record { mode = PolarWithQjl; profile = F32; dim = 2; bits = 1; projections = 3; range = record { min = pos_zero; max = pos_zero }; has_norm = true; norm = norm; radii_start = 14; indices_start = 18; signs_start = 19; end = 20 }

-- 2.0
pub norm-two : read_record_of (normed (0x00 ∷ 0x00 ∷ 0x00 ∷ 0x40 ∷ []) one_bytes) ≡ value (norm_header two)
unfolding read_record_of header_of radii_of radii_bytes indices_bytes signs_bytes bounds_of projections_of norm_of number place chunks of_le_bytes of_bits lt bad_padding
norm-two = refl

-- −0.0 is kept
pub norm-minus-zero : read_record_of (normed (0x00 ∷ 0x00 ∷ 0x00 ∷ 0x80 ∷ []) one_bytes) ≡ value (norm_header (of_bits binary32 0x8000_0000))
unfolding read_record_of header_of radii_of radii_bytes indices_bytes signs_bytes bounds_of projections_of norm_of number place chunks of_le_bytes of_bits lt bad_padding
norm-minus-zero = refl

-- 'not finite or minus_one_bytes zero': plus infinity, and −1.0 beside a radius that offends
pub norm-infinite : read_record_of (normed (0x00 ∷ 0x00 ∷ 0x80 ∷ 0x7F ∷ []) one_bytes) ≡ refused 23 0
unfolding read_record_of bounds_of projections_of norm_of number of_le_bytes of_bits lt
norm-infinite = refl

pub norm-below : read_record_of (normed minus_one_bytes minus_one_bytes) ≡ refused 23 0
unfolding read_record_of bounds_of projections_of norm_of number of_le_bytes of_bits lt
norm-below = refl

-- 'checked after 17': the range from −1 to 0, and the norm −1.0
pub range-first : read_record_of (0x07 ∷ 0x02 ∷ 0x00 ∷ 0x00 ∷ 0x00 ∷ 0x01 ∷ minus_one_bytes ++ (0x00 ∷ 0x00 ∷ 0x00 ∷ 0x00 ∷ 0x03 ∷ 0x00 ∷ 0x00 ∷ 0x00 ∷ []) ++ minus_one_bytes ++ (0x00 ∷ 0x00 ∷ 0x01 ∷ 0x05 ∷ [])) ≡ refused 17 0
unfolding read_record_of bounds_of projections_of number of_le_bytes of_bits lt
range-first = refl

-- the header is cut short within the norm
pub norm-cut : read_record_of (0x06 ∷ 0x02 ∷ 0x00 ∷ 0x00 ∷ 0x00 ∷ 0x01 ∷ 0x03 ∷ 0x00 ∷ 0x00 ∷ 0x00 ∷ 0x00 ∷ 0x00 ∷ 0x00 ∷ []) ≡ refused 13 13
unfolding read_record_of number
norm-cut = refl

-- ---- a withdrawn position, and the other refusals, in their order

-- 'A record of no bytes now means a withdrawn position'; 'Lengths 1 to 5 still answer 13'
pub no_bytes : read_record_of [] ≡ withdrawn
unfolding read_record_of
no_bytes = refl

pub one_byte : read_record_of (0x00 ∷ []) ≡ refused 13 1
unfolding read_record_of
one_byte = refl

pub five-bytes : read_record_of (0x00 ∷ 0x02 ∷ 0x00 ∷ 0x00 ∷ 0x00 ∷ []) ≡ refused 13 5
unfolding read_record_of
five-bytes = refl

-- bit 2 'may stand only beside bit 1'; bit 3 is not defined
pub map-bit-2 : read_record_of (0x04 ∷ 0x00 ∷ 0x00 ∷ 0x00 ∷ 0x00 ∷ 0x00 ∷ []) ≡ refused 18 4
unfolding read_record_of
map-bit-2 = refl

pub map-bits-0-2 : read_record_of (0x05 ∷ 0x00 ∷ 0x00 ∷ 0x00 ∷ 0x00 ∷ 0x00 ∷ []) ≡ refused 18 5
unfolding read_record_of
map-bits-0-2 = refl

pub map-bit-3 : read_record_of (0x08 ∷ 0x00 ∷ 0x00 ∷ 0x00 ∷ 0x00 ∷ 0x00 ∷ []) ≡ refused 18 8
unfolding read_record_of
map-bit-3 = refl

pub dimension-0 : read_record_of (0x00 ∷ 0x00 ∷ 0x00 ∷ 0x00 ∷ 0x00 ∷ 0x00 ∷ []) ≡ refused 2 0
unfolding read_record_of number
dimension-0 = refl

pub dimension-3 : read_record_of (0x00 ∷ 0x03 ∷ 0x00 ∷ 0x00 ∷ 0x00 ∷ 0x00 ∷ []) ≡ refused 3 3
unfolding read_record_of number
dimension-3 = refl

-- '4 is left .. to records above 4,096': 4,098, and 4,096 passes to the check of the bits, which are 0
pub dimension-4098 : read_record_of (0x00 ∷ 0x02 ∷ 0x10 ∷ 0x00 ∷ 0x00 ∷ 0x00 ∷ []) ≡ refused 4 4098
unfolding read_record_of number
dimension-4098 = refl

pub dimension-4096 : read_record_of (0x00 ∷ 0x00 ∷ 0x10 ∷ 0x00 ∷ 0x00 ∷ 0x00 ∷ []) ≡ refused 1 0
unfolding read_record_of number
dimension-4096 = refl

-- so does 514, which is no power of two
pub dimension-514 : read_record_of (0x00 ∷ 0x02 ∷ 0x02 ∷ 0x00 ∷ 0x00 ∷ 0x00 ∷ []) ≡ refused 1 0
unfolding read_record_of number
dimension-514 = refl

-- '16 is refused beside bit 1'
pub bits-16 : read_record_of (0x02 ∷ 0x02 ∷ 0x00 ∷ 0x00 ∷ 0x00 ∷ 0x10 ∷ []) ≡ refused 1 16
unfolding read_record_of number
bits-16 = refl

-- 'header cut short'
pub header-cut : read_record_of (0x02 ∷ 0x02 ∷ 0x00 ∷ 0x00 ∷ 0x00 ∷ 0x0F ∷ 0x00 ∷ 0x00 ∷ 0x00 ∷ []) ≡ refused 13 9
unfolding read_record_of number
header-cut = refl

pub projections-0 : read_record_of (0x02 ∷ 0x02 ∷ 0x00 ∷ 0x00 ∷ 0x00 ∷ 0x0F ∷ 0x00 ∷ 0x00 ∷ 0x00 ∷ 0x00 ∷ []) ≡ refused 8 0
unfolding read_record_of number projections_of
projections-0 = refl

-- P12 with a padding bit: its place is the byte's index in its payload, not in the record
pub padding-indices : read_record_of (0x00 ∷ 0x02 ∷ 0x00 ∷ 0x00 ∷ 0x00 ∷ 0x01 ∷ 0x00 ∷ 0x00 ∷ 0x80 ∷ 0x3F ∷ 0x03 ∷ []) ≡ refused 14 0
unfolding read_record_of radii_of radii_bytes indices_bytes bounds_of projections_of norm_of number place chunks of_le_bytes of_bits lt bad_padding
padding-indices = refl

-- P13 with one
pub padding-signs : read_record_of (0x02 ∷ 0x02 ∷ 0x00 ∷ 0x00 ∷ 0x00 ∷ 0x01 ∷ 0x03 ∷ 0x00 ∷ 0x00 ∷ 0x00 ∷ 0x00 ∷ 0x00 ∷ 0x80 ∷ 0x3F ∷ 0x01 ∷ 0x0D ∷ []) ≡ refused 14 0
unfolding read_record_of radii_of radii_bytes indices_bytes signs_bytes bounds_of projections_of norm_of number place chunks of_le_bytes of_bits lt bad_padding
padding-signs = refl

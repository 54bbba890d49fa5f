-- The lengths of document 01's worked records, computed: P12 has 11 bytes and P13 16; a linear record has its range beside them; dimensions that are no
-- power of two; and one refusal of each kind. Assumes nothing.
use mathlib.Core.Path.{◌≡◌, refl}
use lib.Ieee.{nan}
use Rattle.std.specs.Prelude.{None, Some}
use Rattle.error.specs.Answer.{value, refused}
use Rattle.radius.specs.declared.RadiusCodecProfileV1.TheVariants.{F32, BlockLinearU16, BlockLogU8}
use Rattle.setup.specs.declared.TurboMode.TheVariants.{PolarOnly, PolarWithQjl}
use Rattle.packed_size.specs.Size.{record_size_of}

pub p12-size : record_size_of (record { profile = F32; mode = PolarOnly; dim = 2; bits = 1; projections = 9999; norm = None }) ≡ value 11
unfolding record_size_of
p12-size = refl

pub p13-size : record_size_of (record { profile = F32; mode = PolarWithQjl; dim = 2; bits = 1; projections = 3; norm = None }) ≡ value 16
unfolding record_size_of
p13-size = refl

-- P13 with a norm, whatever its value: four bytes more
pub norm-size : record_size_of (record { profile = F32; mode = PolarWithQjl; dim = 2; bits = 1; projections = 3; norm = Some nan }) ≡ value 20
unfolding record_size_of
norm-size = refl

-- two linear radii, with their range
pub linear-size : record_size_of (record { profile = BlockLinearU16; mode = PolarOnly; dim = 4; bits = 1; projections = 0; norm = None }) ≡ value 19
unfolding record_size_of
linear-size = refl

-- three pairs, and 257 pairs with 33 bytes of indices; 4,096 is the largest dimension
pub dimension-6-size : record_size_of (record { profile = F32; mode = PolarOnly; dim = 6; bits = 1; projections = 0; norm = None }) ≡ value 19
unfolding record_size_of
dimension-6-size = refl

pub dimension-514-size : record_size_of (record { profile = F32; mode = PolarOnly; dim = 514; bits = 1; projections = 0; norm = None }) ≡ value 1067
unfolding record_size_of
dimension-514-size = refl

pub dimension-4098-refused : record_size_of (record { profile = F32; mode = PolarOnly; dim = 4098; bits = 1; projections = 0; norm = None }) ≡ refused 4 4098
unfolding record_size_of
dimension-4098-refused = refl

pub log-refused : record_size_of (record { profile = BlockLogU8; mode = PolarOnly; dim = 0; bits = 0; projections = 0; norm = None }) ≡ refused 18 0
unfolding record_size_of
log-refused = refl

-- 'if it comes without signs', before the dimension
pub norm-refused : record_size_of (record { profile = F32; mode = PolarOnly; dim = 0; bits = 0; projections = 0; norm = Some nan }) ≡ refused 18 0
unfolding record_size_of
norm-refused = refl

pub bits-refused : record_size_of (record { profile = F32; mode = PolarWithQjl; dim = 2; bits = 16; projections = 0; norm = None }) ≡ refused 1 16
unfolding record_size_of
bits-refused = refl

pub projections-refused : record_size_of (record { profile = F32; mode = PolarWithQjl; dim = 2; bits = 1; projections = 4097; norm = None }) ≡ refused 8 4097
unfolding record_size_of
projections-refused = refl

-- The claim about the leaves holds: one truth for all of it. Each part is proved in the crate that it speaks of. Assumes nothing.
use Rattle.bitpack.proofs.RoundTrip as bits
use Rattle.float.proofs.Bytes.{of_le_bytes-to_le_bytes, to_le_bytes-of_le_bytes}
use Rattle.float.proofs.RootCases.{square_root-nan, square_root-infinity, square_root-minus-infinity, square_root-zero, square_root-negative}
use Rattle.float.proofs.SquareRoot.{square_root-nearest, nearest_root-unique}
use Rattle.radius.proofs.RoundTrip as radii
use Rattle.rotation.proofs.Powers as powers
use Rattle.leaves.specs.Leaves.{Leaves}

pub leaves-hold : Leaves
leaves-hold = record {
  pack_bit = λ indices b room packed told. bits.pack_bit indices b room told;
  unpack_bit = λ packed count b room indices below told. bits.unpack_bit packed count b room told (record { at = below });
  unpack_pack = λ indices b room packed told. bits.unpack_pack indices b room told;
  pack_unpack = λ packed count b room indices below told. bits.pack_unpack packed count b room told (record { at = below });
  pack_signs_bit = λ signs room packed told. bits.pack_signs_bit signs room told;
  unpack_signs_bit = λ packed count room signs below told. bits.unpack_signs_bit packed count room told (record { at = below });
  unpack_pack_signs = λ signs room packed told. bits.unpack_pack_signs signs room told;
  pack_unpack_signs = λ packed count room signs below told. bits.pack_unpack_signs packed count room told (record { at = below });
  decompress_compress = λ rs room bytes range fit told. radii.decompress_compress rs room bytes range (record { at = fit }) told;
  compress_decompress = λ count range payload room rs below told. radii.compress_decompress count range payload room rs (record { at = below }) told;
  float_back = of_le_bytes-to_le_bytes;
  bytes_back = λ bytes below long number. to_le_bytes-of_le_bytes bytes (record { at = below }) long number;
  root_nearest = square_root-nearest;
  root_unique = nearest_root-unique;
  root_zero = square_root-zero;
  root_below = square_root-negative;
  root_below_all = square_root-minus-infinity;
  root_infinity = square_root-infinity;
  root_nan = square_root-nan;
  one_bit = λ n below one. powers.one_bit 64 n below one;
  power_bit = powers.power_bit;
}

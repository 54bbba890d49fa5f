-- `bitpack_signs_writing::block_bits` meets its contract: the bits of the signs passed stand in front. Assumes nothing.
use mathlib.Core.Path.{◌≡◌}
use mathlib.Core.List.{map}
use lib.ListN.{length, take, drop}
use Rattle.bitpack.specs.Signs.{bit_of_sign}
use Rattle.bitpack_signs_writing.proofs.block_bits.Given as goal

abbrev pub invariant-loop-i : goal.invariant-loop-i
invariant-loop-i l = record { long : length l.x-items ≡ 256; front : take l.i l.x-items ≡ take l.i (drop l.at (map bit_of_sign l.signs)) }

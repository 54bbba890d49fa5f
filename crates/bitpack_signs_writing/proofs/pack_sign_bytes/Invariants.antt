-- `bitpack_signs_writing::pack_sign_bytes` meets its contract: the loop keeps `SignsPacked`; a last byte is written where signs are left. Assumes nothing.
use mathlib.Core.List.{map}
use lib.ListN.{length}
use Rattle.bitpack.specs.Padding.{bytes_for}
use Rattle.bitpack.specs.Signs.{bit_of_sign}
use Rattle.bitpack_signs_writing.specs.Inner.{SignsPacked}
use Rattle.bitpack_signs_writing.proofs.pack_sign_bytes.Given as goal

abbrev pub invariant-loop-k : goal.invariant-loop-k
invariant-loop-k l = SignsPacked (map bit_of_sign l.signs) (bytes_for (length l.signs)) l.out l.k

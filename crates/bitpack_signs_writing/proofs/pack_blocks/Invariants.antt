-- `bitpack_signs_writing::pack_blocks` meets its contract: each byte that a block gives is the next of `SignsPacked`. Assumes nothing.
use Prim.Native.Nat.{◌+◌, ◌*◌}
use mathlib.Core.List.{map}
use lib.ListN.{length}
use Rattle.bitpack.specs.Signs.{bit_of_sign}
use Rattle.bitpack_signs_writing.specs.Inner.{SignsPacked}
use Rattle.bitpack_signs_writing.proofs.pack_blocks.Given as goal

abbrev pub invariant-loop-j : goal.invariant-loop-j
invariant-loop-j l = SignsPacked (map bit_of_sign l.signs) (length l.initial.out) l.out (32 * l.block + l.j)

abbrev pub invariant-loop-block : goal.invariant-loop-block
invariant-loop-block l = SignsPacked (map bit_of_sign l.signs) (length l.initial.out) l.out (32 * l.block)

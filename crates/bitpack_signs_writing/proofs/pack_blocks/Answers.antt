-- `bitpack_signs_writing::pack_blocks` meets its contract: each byte that a block gives is the next of `SignsPacked`. Assumes nothing.
use Prim.Native.Nat.{◌+◌, ◌*◌}
use mathlib.Core.Path.{◌≡◌, ◌∙◌}
use native.Mathlib.Omega.{arith}
use lib.ListN.{length-map}
use Rattle.bitpack.specs.Signs.{bit_of_sign}
use Rattle.bitpack_signs_writing.proofs.SignPacking.{signs-byte}
use Rattle.bitpack_signs_writing.proofs.SignBlocks.{signs-block, whole_block_at}
use Rattle.bitpack_signs_writing.proofs.pack_blocks.Goals as goal

pub bits_byte-requires : goal.bits_byte-requires
bits_byte-requires c = (omega arith, rw c.block_bits-bits.ensures (signs-block c.args.signs.now _ (omega arith)))

pub loop-j-preserved : goal.loop-j-preserved
loop-j-preserved c = let next : 32 * c.loop-block.block + (c.loop-j.j + 1) ≡ 32 * c.loop-block.block + c.loop-j.j + 1 = omega arith in
    rw next (signs-byte _ _ _ (length-map c.args.signs.now bit_of_sign) (c.loop-block.invariant.sized ∙ c.requires) _ _ c.loop-j.invariant (omega arith) _ (whole_block_at _ _ _ _ _ c.block_bits-bits.ensures c.loop-j-test.true c.bits_byte.ensures) c.bits_byte.type_inv)

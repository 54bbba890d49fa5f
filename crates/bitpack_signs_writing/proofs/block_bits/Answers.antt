-- `bitpack_signs_writing::block_bits` meets its contract: the bits of the signs passed stand in front. Assumes nothing.
use mathlib.Core.Path.{◌∙◌}
use mathlib.Core.List.{map}
use Prim.Native.Nat.{◌+◌}
use native.Mathlib.Omega.{arith}
use lib.ListN.{length-map, length-set}
use Rattle.bitpack.specs.Signs.{bit_of_sign}
use Rattle.bitpack_signs.proofs.Signs.{bit-read}
use Rattle.bitpack_signs_writing.proofs.SignBlocks.{block-next, block-end}
use Rattle.bitpack_signs_writing.proofs.block_bits.Goals as goal

pub loop-i-preserved : goal.loop-i-preserved
loop-i-preserved c = let s = c.loop-i in
    let signs = c.args.signs.now in
    record {
      long = simp length-set s.invariant.long;
      front = block-next (map bit_of_sign signs) c.args.at (omega (arith, length-map signs bit_of_sign)) _ _ _ c.loop-i-test.true s.invariant.long s.invariant.front (c.bit.ensures.0 ∙ bit-read signs (c.args.at + s.i) (omega arith));
    }

pub returns : goal.returns
returns c = let signs = c.args.signs.now in
    let s = c.loop-i in
    block-end (map bit_of_sign signs) c.args.at (omega (arith, length-map signs bit_of_sign)) _ _ (omega arith) c.loop-i-test.false s.invariant.long s.invariant.front

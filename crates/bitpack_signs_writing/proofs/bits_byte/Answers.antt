-- `bitpack_signs_writing::bits_byte` meets its contract: two words of bits, gathered by one product. Assumes nothing.
use Rattle.bitpack_signs_writing.proofs.SignBlocks.{block-byte}
use Rattle.bitpack_signs_writing.proofs.bits_byte.Goals as goal

pub returns : goal.returns
returns c = rw (c.word_of-low.ensures, c.word_of-high.ensures) (block-byte c.args.bits.now c.args.at c.requires.0 c.requires.1)

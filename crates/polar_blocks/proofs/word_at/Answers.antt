-- `polar_blocks::word_at` meets its contract: two words of four bytes, one behind the other. Assumes nothing.
use Rattle.polar_blocks.proofs.Indices.{number-eight}
use Rattle.polar_blocks.proofs.word_at.Goals as goal

pub returns-then-bytes-at-ge8 : goal.returns-then-bytes-at-ge8
returns-then-bytes-at-ge8 c = number-eight c.args.bytes.now c.args.at _ _ c.word_of-low.ensures c.word_of-high.ensures

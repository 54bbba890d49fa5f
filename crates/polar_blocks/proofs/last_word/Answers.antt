-- `polar_blocks::last_word` meets its contract: two words of four bytes, one behind the other. Assumes nothing.
use Rattle.polar_blocks.proofs.Indices.{number-eight}
use Rattle.polar_blocks.proofs.last_word.Goals as goal

pub returns : goal.returns
returns c = number-eight c.args.bytes.now c.args.at _ _ c.four_at.ensures c.four_at-2.ensures

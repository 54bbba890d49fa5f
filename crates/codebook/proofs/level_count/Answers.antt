-- `codebook::level_count` meets its contract: the shift loses no bit. Assumes nothing.
use Rattle.float.proofs.Levels.{levels-shifted}
use Rattle.codebook.proofs.level_count.Goals as goal

pub returns : goal.returns
returns c = levels-shifted c.args.bits c.requires

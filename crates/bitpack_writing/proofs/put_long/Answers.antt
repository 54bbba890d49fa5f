-- `bitpack_writing::put_long` meets its contract: four bytes are placed, and four behind them. Assumes nothing.
use Rattle.bitpack_writing.proofs.Groups.{placed-more}
use Rattle.bitpack_writing.proofs.put_long.Goals as goal

pub returns : goal.returns
returns c = placed-more _ _ _ _ 4 4 _ c.put_low.ensures c.put_low-2.ensures

-- `qjl_sums::products` meets its contract: the loop keeps that the terms of the columns passed are placed, those of two rows in each array. Assumes nothing.
use Rattle.std.proofs.Common.{refl}
use Rattle.qjl_sums.proofs.Fours.{paired-more}
use Rattle.qjl_sums.proofs.products.Goals as goal

pub loop-i-preserved : goal.loop-i-preserved
loop-i-preserved c = (paired-more _ _ _ _ _ _ _ _ _ refl refl c.loop-i-test.true c.loop-i.invariant.0, paired-more _ _ _ _ _ _ _ _ _ refl refl c.loop-i-test.true c.loop-i.invariant.1)

-- `setup::outside_bits` meets its contract. Assumes nothing.
use Rattle.std.proofs.Common.{le-ltb, lt-ltb}
use Rattle.setup.proofs.outside_bits.Goals as goal

pub returns-then-bits-lt1 : goal.returns-then-bits-lt1
returns-then-bits-lt1 c = simp (c.in-PolarOnly.is, lt-ltb _ _ c.if-bits-lt1.true)

pub returns-then-bits-lt2 : goal.returns-then-bits-lt2
returns-then-bits-lt2 c = simp (c.in-PolarWithQjl.is, lt-ltb _ _ c.if-bits-lt2.true)

pub returns-else-bits-lt1 : goal.returns-else-bits-lt1
returns-else-bits-lt1 c = simp (c.in-PolarOnly.is, le-ltb _ _ c.if-bits-lt1.false)

pub returns-else-bits-lt2 : goal.returns-else-bits-lt2
returns-else-bits-lt2 c = simp (c.in-PolarWithQjl.is, le-ltb _ _ c.if-bits-lt2.false)

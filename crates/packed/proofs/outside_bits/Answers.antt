-- `packed::outside_bits` meets its contract. Assumes nothing.
use borrow.Author.Tests.{lt-ltb, le-ltb}
use Rattle.packed.proofs.outside_bits.Goals as goal

pub returns-then-bits-lt1 : goal.returns-then-bits-lt1
returns-then-bits-lt1 c = simp (lt-ltb _ _ c.if-bits-lt1.true)

pub returns-in-PolarOnly : goal.returns-in-PolarOnly
returns-in-PolarOnly c = simp (c.in-PolarOnly.is, le-ltb _ _ c.if-bits-lt1.false)

pub returns-in-PolarWithQjl : goal.returns-in-PolarWithQjl
returns-in-PolarWithQjl c = simp (c.in-PolarWithQjl.is, le-ltb _ _ c.if-bits-lt1.false)

-- `packed_parts::outside_places` meets its contract: the two tests in the definition's order. Assumes nothing.
use borrow.Author.Tests.{lt-ltb, le-ltb}
use Rattle.packed_parts.proofs.outside_places.Goals as goal

pub returns-then-to-from : goal.returns-then-to-from
returns-then-to-from c = simp (lt-ltb _ _ c.if-to-from.true)

pub returns-else-to-from : goal.returns-else-to-from
returns-else-to-from c = simp (le-ltb _ _ c.if-to-from.false)

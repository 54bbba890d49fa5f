-- `rotation::outside_powers` tells whether the dimension has another number of set bits than one, or is above 4,096. Assumes nothing.
use borrow.Author.Tests.{eq-eqb, ne_eqb}
use Rattle.rotation.proofs.outside_powers.Goals as goal

pub returns-then-dim-ne1 : goal.returns-then-dim-ne1
returns-then-dim-ne1 c = simp (ne_eqb _ _ c.if-dim-ne1.true)

pub returns : goal.returns
returns c = simp (eq-eqb _ _ c.if-dim-ne1.false)

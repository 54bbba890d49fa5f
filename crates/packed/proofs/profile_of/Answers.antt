-- `packed::profile_of` meets its contract. Assumes nothing.
use borrow.Author.Tests.{eq-eqb, ne_eqb}
use Rattle.packed.proofs.profile_of.Goals as goal

pub returns-then-map-eq1 : goal.returns-then-map-eq1
returns-then-map-eq1 c = simp (eq-eqb _ _ c.if-map-eq1.true)

pub returns-else-map-eq1 : goal.returns-else-map-eq1
returns-else-map-eq1 c = simp (ne_eqb _ _ c.if-map-eq1.false)

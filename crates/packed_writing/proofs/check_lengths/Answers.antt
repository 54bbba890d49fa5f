-- `packed_writing::check_lengths` meets its contract. Assumes nothing.
use borrow.Author.Tests.{eq-eqb, ne_eqb}
use Rattle.packed_writing.proofs.check_lengths.Goals as goal

pub returns-then-radii-pairs : goal.returns-then-radii-pairs
returns-then-radii-pairs c = simp (ne_eqb _ _ c.if-radii-pairs.true)

pub returns-then-indices-pairs : goal.returns-then-indices-pairs
returns-then-indices-pairs c = simp (eq-eqb _ _ c.if-radii-pairs.false, ne_eqb _ _ c.if-indices-pairs.true)

pub returns-then-signs-projections : goal.returns-then-signs-projections
returns-then-signs-projections c = simp (eq-eqb _ _ c.if-radii-pairs.false, eq-eqb _ _ c.if-indices-pairs.false, ne_eqb _ _ c.if-signs-projections.true)

pub returns : goal.returns
returns c = simp (eq-eqb _ _ c.if-radii-pairs.false, eq-eqb _ _ c.if-indices-pairs.false, eq-eqb _ _ c.if-signs-projections.false)

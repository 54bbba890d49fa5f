-- `radius::span_of` meets its contract: the definition's one test. Assumes nothing.
use Rattle.radius.specs.Linear.{span_of}
use Rattle.radius.proofs.span_of.Goals as goal

pub returns-then-width : goal.returns-then-width
unfolding span_of
returns-then-width c = simp c.if-width.true

pub returns-else-width : goal.returns-else-width
unfolding span_of
returns-else-width c = simp c.if-width.false

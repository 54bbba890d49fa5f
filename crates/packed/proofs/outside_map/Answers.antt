-- `packed::outside_map` meets its contract: the tests in the definition's order. Assumes nothing.
use mathlib.Core.Path.{sym, ◌∙◌}
use borrow.Author.Tests.{lt-ltb, le-ltb}
use Rattle.packed.proofs.outside_map.Goals as goal

pub returns-then-map-gt7 : goal.returns-then-map-gt7
returns-then-map-gt7 c = simp (lt-ltb _ _ c.if-map-gt7.true)

pub returns-then-norm_stands : goal.returns-then-norm_stands
returns-then-norm_stands c = simp (le-ltb _ _ c.if-map-gt7.false, sym c.norm_stands.ensures ∙ c.if-norm_stands.true)

pub returns-else-norm_stands : goal.returns-else-norm_stands
returns-else-norm_stands c = c.if-norm_stands.false ∙ simp (le-ltb _ _ c.if-map-gt7.false, sym c.norm_stands.ensures ∙ c.if-norm_stands.false)

-- `packed_reading::projections_of` meets its contract. Assumes nothing.
use Rattle.packed.specs.Fields.{projections_of}
use mathlib.Core.Path.{sym, ◌∙◌}
use borrow.Author.Tests.{eq-eqb, ne_eqb}
use borrow.Author.Rules.{rules}
use Rattle.packed.proofs.Headers.{word-run}
use Rattle.packed_reading.proofs.projections_of.Goals as goal

pub returns-then-map-eq1 : goal.returns-then-map-eq1
unfolding projections_of
returns-then-map-eq1 c = c.get_u32.ensures ∙ word-run c.args.bytes.now _ (search rules) ∙ sym (simp (eq-eqb _ _ c.if-map-eq1.true))

pub returns : goal.returns
unfolding projections_of
returns c = sym (simp (ne_eqb _ _ c.if-map-eq1.false))

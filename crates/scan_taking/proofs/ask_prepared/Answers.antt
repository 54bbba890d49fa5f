-- `scan_taking::ask_prepared` meets its contract: 22 where no number is left, and else what scoring answers. Assumes nothing.
use mathlib.Core.Path.{sym, ◌∙◌}
use native.Mathlib.Omega.{arith}
use borrow.Author.Rules.{rules}
use Rattle.scan.proofs.Events.{ask-full, ask-some}
use Rattle.scan_taking.proofs.ask_prepared.Goals as goal

pub returns-then-taken-eq-MOST_RECORDS : goal.returns-then-taken-eq-MOST_RECORDS
returns-then-taken-eq-MOST_RECORDS c = sym (ask-full c.args.taken _ (omega (arith, c.if-taken-eq-MOST_RECORDS.true)))

pub returns : goal.returns
returns c = c.inner_product_estimate_prepared_phased.ensures ∙ sym (ask-some c.args.taken _ (search rules))

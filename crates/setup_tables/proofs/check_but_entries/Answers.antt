-- `setup_tables::check_but_entries` meets its contract: the scalars' checks, and then the tables'. Assumes nothing.
use mathlib.Core.Path.{sym, ap, ◌∙◌}
use Rattle.error.specs.Answer.{accepted}
use Rattle.error.specs.Outcomes.{says}
use Rattle.setup.specs.Lent.{lent}
use Rattle.setup.specs.Checks.{scalar_checks}
use Rattle.setup_tables.specs.Checks.{table_checks_but_entries}
use Rattle.error.proofs.Chains.{append-passed, append-refused}
use Rattle.error.proofs.Passed.{passed_on}
use Rattle.setup_tables.proofs.check_but_entries.Goals as goal

pub check_tables-requires : goal.check_tables-requires
check_tables-requires c = sym c.check_scalars.ensures ∙ ap says c.in_ok-check_scalars.was

pub returns-in_err-check_scalars : goal.returns-in_err-check_scalars
returns-in_err-check_scalars c = let a = c.args in
    rw (passed_on c.from_residual.result c.from_residual.ensures.1) (sym
    (append-refused (scalar_checks a.setup) (table_checks_but_entries a.setup (lent a.rotation.now a.directions.now a.matrix.now)) tt accepted
    (sym c.in_err-check_scalars.ensures)))

pub returns : goal.returns
returns c = let a = c.args in
    c.check_tables.ensures
    ∙ sym
    (append-passed (scalar_checks a.setup) (table_checks_but_entries a.setup (lent a.rotation.now a.directions.now a.matrix.now)) tt accepted
    (sym c.check_scalars.ensures ∙ ap says c.in_ok-check_scalars.was))

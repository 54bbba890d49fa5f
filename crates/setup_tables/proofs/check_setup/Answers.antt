-- `setup_tables::check_setup` meets its contract: all checks but those of the matrix's entries, and then those. Assumes nothing.
use Prim.Native.Nat.{ℕ, ◌*◌}
use mathlib.Core.Path.{◌≡◌, sym, ap, ◌∙◌}
use Rattle.error.specs.Answer.{first, accepted}
use Rattle.error.specs.Outcomes.{says}
use Rattle.error.proofs.Chains.{append-refused}
use Rattle.setup.specs.Lent.{lent}
use Rattle.setup_tables.specs.Checks.{setup_checks_but_entries, entry_checks}
use Rattle.setup_tables.proofs.Accepted.{but-entries_long, but-entries-rest}
use Rattle.setup_tables.proofs.check_setup.Goals.{In_ok-check_but_entries}
use Rattle.error.proofs.Passed.{passed_on}
use Rattle.setup_tables.proofs.check_setup.Goals as goal

-- what the checks leave, where they are done
passed : (c : goal.In_ok-check_but_entries) → first (setup_checks_but_entries c.args.setup (lent c.args.rotation.now c.args.directions.now c.args.matrix.now)) accepted ≡ accepted
passed c = sym c.check_but_entries.ensures ∙ ap says c.in_ok-check_but_entries.was

pub check_entries-requires : goal.check_entries-requires
check_entries-requires c = let a = c.args in
    ap (λ (n : ℕ). n * a.setup.dim) c.counted_projections.ensures ∙ sym (but-entries_long a.setup (lent a.rotation.now a.directions.now a.matrix.now) (passed (goal.at.check_entries-requires c).In_ok-check_but_entries))

pub returns-in_err-check_but_entries : goal.returns-in_err-check_but_entries
returns-in_err-check_but_entries c = let a = c.args in
    rw (passed_on c.from_residual.result c.from_residual.ensures.1) (sym
    (append-refused (setup_checks_but_entries a.setup (lent a.rotation.now a.directions.now a.matrix.now)) (entry_checks a.matrix.now) tt accepted
    (sym c.in_err-check_but_entries.ensures)))

pub returns : goal.returns
returns c = let a = c.args in
    c.check_entries.ensures ∙ sym (but-entries-rest a.setup (lent a.rotation.now a.directions.now a.matrix.now) (passed (goal.at.returns c).In_ok-check_but_entries))

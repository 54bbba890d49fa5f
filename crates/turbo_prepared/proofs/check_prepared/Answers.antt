-- `turbo_prepared::check_prepared` meets its contract: the setup is judged first, and what is left of the checks is another call's. Assumes nothing.
use mathlib.Core.Path.{◌≡◌, sym, ap, ◌∙◌}
use Rattle.error.specs.Answer.{first, accepted}
use Rattle.error.specs.Outcomes.{says}
use Rattle.setup.specs.Checks.{scalar_checks}
use Rattle.setup_tables.specs.Checks.{direction_checks}
use Rattle.turbo_prepared.proofs.Answers.{ready-scalars, ready-directions, ready-rest}
use Rattle.error.proofs.Passed.{passed_on}
use Rattle.turbo_prepared.proofs.check_prepared.Goals.{In_ok-check_scalars, In_ok-check_directions}
use Rattle.turbo_prepared.proofs.check_prepared.Goals as goal

-- what the first two calls leave, where they are done
scalars : (c : goal.In_ok-check_scalars) → first (scalar_checks c.args.setup) accepted ≡ accepted
scalars c = sym c.check_scalars.ensures ∙ ap says c.in_ok-check_scalars.was

table : (c : goal.In_ok-check_directions) → first (direction_checks c.args.setup c.args.directions.now) accepted ≡ accepted
table c = sym c.check_directions.ensures ∙ ap says c.in_ok-check_directions.was

pub returns-in_err-check_scalars : goal.returns-in_err-check_scalars
returns-in_err-check_scalars c = let a = c.args in
    rw (passed_on c.from_residual.result c.from_residual.ensures.1) (sym (ready-scalars a.setup a.directions.now a.rotated.now a.projected.now (sym c.in_err-check_scalars.ensures)))

pub returns-in_err-check_directions : goal.returns-in_err-check_directions
returns-in_err-check_directions c = let a = c.args in
    rw (passed_on c.from_residual-in_err-check_directions.result c.from_residual-in_err-check_directions.ensures.1) (sym (ready-directions a.setup a.directions.now a.rotated.now a.projected.now (scalars (goal.at.returns-in_err-check_directions c).In_ok-check_scalars) (sym c.in_err-check_directions.ensures)))

pub returns : goal.returns
returns c = let a = c.args in
    c.check_lengths_and_values.ensures
    ∙ sym (ready-rest a.setup a.directions.now a.rotated.now a.projected.now (scalars (goal.at.returns c).In_ok-check_scalars) (table (goal.at.returns c).In_ok-check_directions))

-- `turbo_turn::check_spaces` meets its contract: the scalars' checks, the directions', and then the two lengths. Assumes nothing.
use Prim.Native.Nat.{ℕ, ◌*◌}
use mathlib.Core.Path.{◌≡◌, sym, ap, ◌∙◌}
use native.Mathlib.Omega.{arith}
use native.Mathlib.Nat.{mul-le-mul}
use Rattle.error.specs.Answer.{refused, first, accepted}
use Rattle.error.specs.Outcomes.{says}
use Rattle.setup.specs.Setups.{matrix_needed}
use Rattle.setup.specs.Checks.{scalar_checks}
use Rattle.setup.proofs.Scalars.{scalars-usable}
use Rattle.setup_tables.specs.Checks.{direction_checks}
use Rattle.turbo_turn.proofs.Turned.{space-scalars, space-directions, space-entries, space-room, space-passed}
use Rattle.error.proofs.Passed.{passed_on}
use Rattle.turbo_turn.proofs.check_spaces.Goals.{After-counted_projections-rows, In_ok-check_scalars, In_ok-check_directions}
use Rattle.turbo_turn.proofs.check_spaces.Goals as goal

-- ---- what is known once a check has passed
scalars-pass : (c : goal.In_ok-check_scalars) → first (scalar_checks c.args.setup) accepted ≡ accepted
scalars-pass c = sym c.check_scalars.ensures ∙ ap says c.in_ok-check_scalars.was

table-passes : (c : goal.In_ok-check_directions) → let a = c.args in first (direction_checks a.setup a.directions.now) accepted ≡ accepted
table-passes c = sym c.check_directions.ensures ∙ ap says c.in_ok-check_directions.was

-- the product of rows and columns
entry-count : (c : goal.After-counted_projections-rows) → let a = c.args in c.counted_projections-rows.result * a.setup.dim ≡ matrix_needed a.setup
entry-count c = ap (λ (n : ℕ). n * c.args.setup.dim) c.counted_projections-rows.ensures

pub returns-in_err-check_scalars : goal.returns-in_err-check_scalars
returns-in_err-check_scalars c = let a = c.args in
    rw (passed_on c.from_residual.result c.from_residual.ensures.1) (sym (space-scalars a.setup a.directions.now a.entries a.space (sym c.in_err-check_scalars.ensures)))

pub returns-in_err-check_directions : goal.returns-in_err-check_directions
returns-in_err-check_directions c = let a = c.args in
    rw (passed_on c.from_residual-in_err-check_directions.result c.from_residual-in_err-check_directions.ensures.1) (sym (space-directions a.setup a.directions.now a.entries a.space (scalars-pass (goal.at.returns-in_err-check_directions c).In_ok-check_scalars) (sym c.in_err-check_directions.ensures)))

pub overflow_mul-rows : goal.overflow_mul-rows
overflow_mul-rows c = let a = c.args in
    let u = scalars-usable a.setup (scalars-pass (goal.at.overflow_mul-rows c).In_ok-check_scalars) in
    omega (arith, mul-le-mul u.most_projections u.most, entry-count (goal.at.overflow_mul-rows c).After-counted_projections-rows)

pub returns-then-entries-rows : goal.returns-then-entries-rows
returns-then-entries-rows c = let a = c.args in
    sym (space-entries a.setup a.directions.now a.entries a.space (scalars-pass (goal.at.returns-then-entries-rows c).In_ok-check_scalars) (table-passes (goal.at.returns-then-entries-rows c).In_ok-check_directions) (λ e. c.if-entries-rows.true (e ∙ sym (entry-count (goal.at.returns-then-entries-rows c).After-counted_projections-rows))))

pub returns-then-space-rows : goal.returns-then-space-rows
returns-then-space-rows c = let a = c.args in
    ap (refused 6) c.counted_projections-rows.ensures
    ∙ sym (space-room a.setup a.directions.now a.entries a.space (scalars-pass (goal.at.returns-then-space-rows c).In_ok-check_scalars) (table-passes (goal.at.returns-then-space-rows c).In_ok-check_directions) (c.if-entries-rows.false ∙ entry-count (goal.at.returns-then-space-rows c).After-counted_projections-rows) (λ e. c.if-space-rows.true (e ∙ sym c.counted_projections-rows.ensures)))

pub returns : goal.returns
returns c = let a = c.args in
    sym (space-passed a.setup a.directions.now a.entries a.space (scalars-pass (goal.at.returns c).In_ok-check_scalars) (table-passes (goal.at.returns c).In_ok-check_directions) (c.if-entries-rows.false ∙ entry-count (goal.at.returns c).After-counted_projections-rows) (c.if-space-rows.false ∙ c.counted_projections-rows.ensures))

-- `rotation::check` answers the first check of a rotation that fails: those of the dimension and the signs, then those of the two lengths. Assumes nothing.
use mathlib.Core.Path.{◌≡◌, sym, ap, ◌∙◌}
use mathlib.Core.List.{[], ◌∷◌}
use borrow.Author.Tests.{eq-eqb, ne_eqb}
use Rattle.error.specs.Answer.{first, accepted}
use Rattle.error.specs.Outcomes.{says}
use Rattle.error.specs.Checks.{wrong_input, wrong_room}
use Rattle.error.proofs.Chains.{append-passed, append-refused}
use Rattle.error.proofs.Passed.{passed_on}
use Rattle.rotation.specs.Checks.{sign_checks, rotation_checks}
use Rattle.rotation.proofs.check.Goals.{In_ok-check_signs}
use Rattle.rotation.proofs.check.Goals as goal

pub returns-in_err-check_signs : goal.returns-in_err-check_signs
returns-in_err-check_signs c = let a = c.args in
    rw (passed_on c.from_residual.result c.from_residual.ensures.1) (sym
    (append-refused (sign_checks a.dim a.signs.now) (wrong_input a.input a.dim ∷ wrong_room a.output a.dim ∷ []) tt accepted
    (sym c.in_err-check_signs.ensures)))

-- what the checks of the dimension and the signs leave, where they pass
rest : (c : goal.In_ok-check_signs)
    → let a = c.args in
    first (rotation_checks a.dim a.signs.now a.input a.output) accepted ≡ first (wrong_input a.input a.dim ∷ wrong_room a.output a.dim ∷ []) accepted
rest c =
    let a = c.args in
    append-passed (sign_checks a.dim a.signs.now) (wrong_input a.input a.dim ∷ wrong_room a.output a.dim ∷ []) tt accepted
    (sym c.check_signs.ensures ∙ ap says c.in_ok-check_signs.was)

pub returns-then-input-dim : goal.returns-then-input-dim
returns-then-input-dim c = sym (rest (goal.at.returns-then-input-dim c).In_ok-check_signs ∙ simp (ne_eqb _ _ c.if-input-dim.true))

pub returns-then-output-dim : goal.returns-then-output-dim
returns-then-output-dim c = sym (rest (goal.at.returns-then-output-dim c).In_ok-check_signs ∙ simp (eq-eqb _ _ c.if-input-dim.false, ne_eqb _ _ c.if-output-dim.true))

pub returns : goal.returns
returns c = sym (rest (goal.at.returns c).In_ok-check_signs ∙ simp (eq-eqb _ _ c.if-input-dim.false, eq-eqb _ _ c.if-output-dim.false))

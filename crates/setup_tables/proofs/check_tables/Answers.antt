-- `setup_tables::check_tables` meets its contract: the checks of the lengths, and then those of the rotation and the directions. Assumes nothing.
use mathlib.Core.Path.{refl, ◌≡◌, sym, ap, ◌∙◌}
use mathlib.Core.List.{[], ◌∷◌}
use Rattle.error.specs.Answer.{first, each, accepted}
use Rattle.error.specs.Outcomes.{says}
use Rattle.error.proofs.Chains.{append-passed, append-refused}
use Rattle.error.proofs.Places.{each-offends, each-passes, is_found, is_none}
use Rattle.error.proofs.Passed.{passed_on}
use Rattle.setup.specs.Lent.{Lent, lent}
use Rattle.setup.specs.declared.Setup.{Setup}
use Rattle.setup_tables.specs.Checks.{bad_direction, wrong_rotation_entry, table_length_checks, table_checks_but_entries}
use Rattle.setup_tables.proofs.check_tables.Goals.{In_ok-check_rotation}
use Rattle.setup_tables.proofs.check_tables.Goals as goal

pub check_lengths-requires : goal.check_lengths-requires
check_lengths-requires c = c.requires

pub returns-in_err-check_lengths : goal.returns-in_err-check_lengths
returns-in_err-check_lengths c = let a = c.args in
    rw (passed_on c.from_residual.result c.from_residual.ensures.1) (sym
    (append-refused (table_length_checks a.setup (lent a.rotation.now a.directions.now a.matrix.now)) (wrong_rotation_entry a.setup.kind a.rotation.now ∷ each bad_direction 7 a.directions.now ∷ []) tt accepted
    (sym c.in_err-check_lengths.ensures)))

-- what the checks of the lengths leave, where they pass
rest : (s : Setup) (l : Lent) → first (table_length_checks s l) accepted ≡ accepted
    → first (table_checks_but_entries s l) accepted ≡ first (wrong_rotation_entry s.kind l.rotation ∷ each bad_direction 7 l.directions ∷ []) accepted
rest s l passed = append-passed (table_length_checks s l) (wrong_rotation_entry s.kind l.rotation ∷ each bad_direction 7 l.directions ∷ []) tt accepted passed

pub returns-in_err-check_rotation : goal.returns-in_err-check_rotation
returns-in_err-check_rotation c = let a = c.args in
    rw (passed_on c.from_residual-in_err-check_rotation.result c.from_residual-in_err-check_rotation.ensures.1) (sym
    (rest a.setup (lent a.rotation.now a.directions.now a.matrix.now) (sym c.check_lengths.ensures ∙ ap says c.in_ok-check_lengths.was)
    ∙ append-refused (wrong_rotation_entry a.setup.kind a.rotation.now ∷ []) (each bad_direction 7 a.directions.now ∷ []) tt accepted
    (sym c.in_err-check_rotation.ensures)))

-- what the check of the rotation leaves, where it passes
last : (c : goal.In_ok-check_rotation)
    → let a = c.args in
    first (table_checks_but_entries a.setup (lent a.rotation.now a.directions.now a.matrix.now)) accepted
    ≡ first (each bad_direction 7 a.directions.now ∷ []) accepted
last c =
    let a = c.args in
    rest a.setup (lent a.rotation.now a.directions.now a.matrix.now) (sym c.check_lengths.ensures ∙ ap says c.in_ok-check_lengths.was)
    ∙ append-passed (wrong_rotation_entry a.setup.kind a.rotation.now ∷ []) (each bad_direction 7 a.directions.now ∷ []) tt accepted
    (sym c.check_rotation.ensures ∙ ap says c.in_ok-check_rotation.was)

pub returns-in-Some : goal.returns-in-Some
returns-in-Some c = sym (last (goal.at.returns-in-Some c).In_ok-check_rotation ∙ simp (each-offends bad_direction _ (is_found c.first_bad_direction.ensures c.in-Some.is).0 (is_found c.first_bad_direction.ensures c.in-Some.is).1, (is_found c.first_bad_direction.ensures c.in-Some.is).0))

pub returns : goal.returns
returns c = sym (last (goal.at.returns c).In_ok-check_rotation ∙ simp (each-passes bad_direction _ refl (is_none c.first_bad_direction.ensures c.in_default.is)))

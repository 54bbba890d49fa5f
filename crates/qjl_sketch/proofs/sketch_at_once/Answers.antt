-- `qjl_sketch::sketch_at_once` meets its contract: finite projections stand for the checks of the matrix's entries and of the vector. Assumes nothing.
use mathlib.Core.Path.{◌≡◌, refl, sym, ◌∙◌}
use Rattle.error.specs.Answer.{first, accepted}
use Rattle.error.proofs.Passed.{not_refused}
use Rattle.setup.specs.Lent.{lent}
use Rattle.setup_tables.specs.Checks.{setup_checks_but_entries}
use Rattle.qjl.proofs.Answers.{shaped-ready}
use Rattle.qjl_sketch.proofs.Answers.{shaped-value}
use Rattle.error.proofs.AtOnce.{at_once-left}
use Rattle.qjl_sketch.proofs.AtOnce.{at_once-signs}
use Rattle.qjl_sketch.proofs.sketch_at_once.Goals.{Else-is_err}
use Rattle.qjl_sketch.proofs.sketch_at_once.Goals as goal

-- what the checks leave, where they are done
passed : (c : goal.Else-is_err) → first (setup_checks_but_entries c.args.setup (lent c.args.rotation.now c.args.directions.now c.args.matrix.now)) accepted ≡ accepted
passed c = sym c.check_but_entries.ensures ∙ not_refused _ (sym c.is_err.ensures.value ∙ c.if-is_err.false)

pub returns-then-is_err : goal.returns-then-is_err
returns-then-is_err c = at_once-left _ _ _ refl

pub returns-then-vector-dim : goal.returns-then-vector-dim
returns-then-vector-dim c = at_once-left _ _ _ refl

pub returns-then-rows-eq0 : goal.returns-then-rows-eq0
returns-then-rows-eq0 c = at_once-left _ _ _ refl

pub returns-then-out-rows : goal.returns-then-out-rows
returns-then-out-rows c = at_once-left _ _ _ refl

pub sketch_rows-requires : goal.sketch_rows-requires
sketch_rows-requires c = let a = c.args in
    shaped-ready a.setup (lent a.rotation.now a.directions.now a.matrix.now) a.vector.now _ (passed (goal.at.sketch_rows-requires c).Else-is_err) c.if-vector-dim.false c.counted_projections-rows.ensures c.if-out-rows.false

pub returns : goal.returns
returns c = let a = c.args in
    at_once-signs _ (shaped-value a.setup (lent a.rotation.now a.directions.now a.matrix.now) a.vector.now _ (passed (goal.at.returns c).Else-is_err) c.if-vector-dim.false c.counted_projections-rows.ensures c.if-out-rows.false c.if-rows-eq0.false) c.sketch_rows.ensures

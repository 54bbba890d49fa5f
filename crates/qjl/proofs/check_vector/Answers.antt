-- `qjl::check_vector` meets its contract: each return is one case of the laws of the vector's checks. Assumes nothing.
use mathlib.Core.Path.{refl, sym, ap, ◌∙◌}
use Rattle.error.specs.Outcomes.{says}
use Rattle.setup.specs.Lent.{lent}
use Rattle.qjl.proofs.Answers.{vector-refused, vector-length, vector-entry, vector-passed}
use Rattle.error.proofs.Passed.{passed_on}
use Rattle.error.proofs.Places.{is_found, is_none}
use Rattle.qjl.proofs.check_vector.Goals as goal

pub returns-in_err-check_setup : goal.returns-in_err-check_setup
returns-in_err-check_setup c = let a = c.args in
    rw (passed_on c.from_residual.result c.from_residual.ensures.1) (sym (vector-refused a.setup (lent a.rotation.now a.directions.now a.matrix.now) a.vector.now (sym c.in_err-check_setup.ensures)))

pub returns-then-vector-dim : goal.returns-then-vector-dim
returns-then-vector-dim c = let a = c.args in
    sym (vector-length a.setup (lent a.rotation.now a.directions.now a.matrix.now) a.vector.now (sym c.check_setup.ensures ∙ ap says c.in_ok-check_setup.was) c.if-vector-dim.true)

pub returns-in-Some : goal.returns-in-Some
returns-in-Some c = let a = c.args in
    sym (vector-entry a.setup (lent a.rotation.now a.directions.now a.matrix.now) a.vector.now (sym c.check_setup.ensures ∙ ap says c.in_ok-check_setup.was) c.if-vector-dim.false (is_found c.first_non_finite.ensures c.in-Some.is).0 (is_found c.first_non_finite.ensures c.in-Some.is).1)

pub returns : goal.returns
returns c = let a = c.args in
    sym (vector-passed a.setup (lent a.rotation.now a.directions.now a.matrix.now) a.vector.now (sym c.check_setup.ensures ∙ ap says c.in_ok-check_setup.was) c.if-vector-dim.false refl (is_none c.first_non_finite.ensures c.in_default.is))

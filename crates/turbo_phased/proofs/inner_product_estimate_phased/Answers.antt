-- `turbo_phased::inner_product_estimate_phased` meets its contract: the scalars are judged first. Assumes nothing.
use mathlib.Core.Path.{sym, ap, ◌∙◌}
use Rattle.error.specs.Outcomes.{says}
use Rattle.error.proofs.Passed.{passed_on}
use Rattle.setup.specs.Lent.{lent}
use Rattle.turbo_query.proofs.Answers.{query-scalars}
use Rattle.turbo_phased.proofs.Answers.{phased-refused}
use Rattle.turbo_phased.proofs.inner_product_estimate_phased.Goals as goal

pub measure_query-requires : goal.measure_query-requires
measure_query-requires c = sym c.check_scalars.ensures ∙ ap says c.in_ok-check_scalars.was

pub returns-in_err-check_scalars : goal.returns-in_err-check_scalars
returns-in_err-check_scalars c = let a = c.args in
    let l = (lent a.rotation.now a.directions.now a.matrix.now) in
    rw (passed_on c.from_residual.result c.from_residual.ensures.1) (sym (phased-refused a.setup l a.query.now a.bytes.now (query-scalars a.setup l a.query.now (sym c.in_err-check_scalars.ensures))))

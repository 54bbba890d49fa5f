-- `capi_answers::codes::source_norm` meets its contract. Assumes nothing.
use borrow.Author.Tests.{eq-eqb, ne_eqb}
use Rattle.capi_answers.specs.Codes.{norm_from}
use Rattle.capi_answers.proofs.codes.source_norm.Goals as goal

pub returns-then-has_norm-eq0 : goal.returns-then-has_norm-eq0
unfolding norm_from
returns-then-has_norm-eq0 c = simp (eq-eqb _ _ c.if-has_norm-eq0.true)

pub returns : goal.returns
unfolding norm_from
returns c = simp (ne_eqb _ _ c.if-has_norm-eq0.false)

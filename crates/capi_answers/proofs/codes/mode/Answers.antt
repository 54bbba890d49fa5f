-- `capi_answers::codes::mode` meets its contract. Assumes nothing.
use borrow.Author.Tests.{eq-eqb, ne_eqb}
use Rattle.capi_answers.specs.Codes.{mode_from}
use Rattle.capi_answers.proofs.codes.mode.Goals as goal

pub returns-then-code-eq0 : goal.returns-then-code-eq0
unfolding mode_from
returns-then-code-eq0 c = simp (eq-eqb _ _ c.if-code-eq0.true)

pub returns : goal.returns
unfolding mode_from
returns c = simp (ne_eqb _ _ c.if-code-eq0.false)

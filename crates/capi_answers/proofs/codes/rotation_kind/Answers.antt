-- `capi_answers::codes::rotation_kind` meets its contract. Assumes nothing.
use borrow.Author.Tests.{eq-eqb, ne_eqb}
use Rattle.capi_answers.specs.Codes.{rotation_from}
use Rattle.capi_answers.proofs.codes.rotation_kind.Goals as goal

pub returns-then-code-eq0 : goal.returns-then-code-eq0
unfolding rotation_from
returns-then-code-eq0 c = simp (eq-eqb _ _ c.if-code-eq0.true)

pub returns : goal.returns
unfolding rotation_from
returns c = simp (ne_eqb _ _ c.if-code-eq0.false)

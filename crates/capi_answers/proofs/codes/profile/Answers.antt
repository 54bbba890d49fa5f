-- `capi_answers::codes::profile` meets its contract. Assumes nothing.
use borrow.Author.Tests.{eq-eqb, ne_eqb}
use Rattle.capi_answers.specs.Codes.{profile_from}
use Rattle.capi_answers.proofs.codes.profile.Goals as goal

pub returns-then-code-eq0 : goal.returns-then-code-eq0
unfolding profile_from
returns-then-code-eq0 c = simp (eq-eqb _ _ c.if-code-eq0.true)

pub returns-then-code-eq1 : goal.returns-then-code-eq1
unfolding profile_from
returns-then-code-eq1 c = simp (ne_eqb _ _ c.if-code-eq0.false, eq-eqb _ _ c.if-code-eq1.true)

pub returns : goal.returns
unfolding profile_from
returns c = simp (ne_eqb _ _ c.if-code-eq0.false, ne_eqb _ _ c.if-code-eq1.false)

-- `rotation::first_bad_sign` finds none where a count finds none of the signs bad, and else looks for the first that is. Assumes nothing.
use Rattle.std.proofs.Common.{rules}
use Rattle.error.proofs.Places.{found-end, found-position}
use Rattle.rotation.specs.Checks.{bad_sign}
use Rattle.rotation.proofs.first_bad_sign.Goals as goal

pub returns-then-bad_signs-eq0 : goal.returns-then-bad_signs-eq0
returns-then-bad_signs-eq0 c = found-end bad_sign _ (c.bad_signs.ensures c.if-bad_signs-eq0.true)

pub returns : goal.returns
returns c = found-position bad_sign _ _ _ c.position.ensures.ran c.iter.ensures.rest (λ x q k. search rules) (λ x q k. search rules)

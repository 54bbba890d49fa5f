-- `rotation_stored::apply` meets its contract: the sums are written at once, or the output is as it was and they are made check by check. Assumes nothing.
use mathlib.Core.Path.{refl}
use Rattle.error.proofs.Answers.{both-value}
use Rattle.rotation_stored.specs.Stored.{stored_apply_of}
use Rattle.rotation_stored.proofs.AtOnce.{applied-again}
use Rattle.error.proofs.Clauses.{said_left}
use Rattle.rotation_stored.proofs.apply.Goals as goal

pub returns-then-apply_at_once : goal.returns-then-apply_at_once
returns-then-apply_at_once c = said_left (both-value _ _ _ (c.apply_at_once.ensures.made c.if-apply_at_once.true) refl)

pub returns : goal.returns
returns c = said_left (let a = c.args in
    applied-again (stored_apply_of a.dim a.matrix.now a.input.now) _ _ (c.apply_at_once.ensures.kept c.if-apply_at_once.false) (c.apply_checked.ensures.said, c.apply_checked.ensures.left))

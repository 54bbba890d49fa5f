-- `rotation_stored::apply_inverse` meets its contract: the sums are written at once, or the output is as it was and they are made check by check. Assumes nothing.
use mathlib.Core.Path.{refl}
use Rattle.error.proofs.Answers.{both-value}
use Rattle.rotation_stored.specs.Stored.{stored_apply_inverse_of}
use Rattle.rotation_stored.proofs.AtOnce.{applied-again}
use Rattle.error.proofs.Clauses.{said_left}
use Rattle.rotation_stored.proofs.apply_inverse.Goals as goal

pub returns-then-inverse_at_once : goal.returns-then-inverse_at_once
returns-then-inverse_at_once c = said_left (both-value _ _ _ (c.inverse_at_once.ensures.made c.if-inverse_at_once.true) refl)

pub returns : goal.returns
returns c = said_left (let a = c.args in
    applied-again (stored_apply_inverse_of a.dim a.matrix.now a.input.now) _ _ (c.inverse_at_once.ensures.kept c.if-inverse_at_once.false) (c.inverse_checked.ensures.said, c.inverse_checked.ensures.left))

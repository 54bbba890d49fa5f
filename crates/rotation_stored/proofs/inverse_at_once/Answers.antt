-- `rotation_stored::inverse_at_once` meets its contract: finite sums stand for the check of the matrix's entries. Assumes nothing.
use mathlib.Core.Path.{refl}
use lib.ListN.{length}
use Rattle.rotation_stored.proofs.AtOnce.{unrotated-at_once}
use Rattle.error.proofs.AtOnce.{at_once-left}
use Rattle.rotation_stored.proofs.inverse_at_once.Goals as goal

pub returns-then-not-is_shaped : goal.returns-then-not-is_shaped
returns-then-not-is_shaped c = at_once-left _ _ _ refl

pub judge_columns-requires : goal.judge_columns-requires
judge_columns-requires c = c.is_shaped.ensures (c.if-not-is_shaped.false)

pub returns : goal.returns
returns c = let a = c.args in
    let s = c.is_shaped.ensures (c.if-not-is_shaped.false) in
    unrotated-at_once a.dim a.matrix.now a.input.now (length a.output.now) s c.judge_columns.ensures

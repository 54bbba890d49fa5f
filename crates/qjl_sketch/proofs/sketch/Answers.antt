-- `qjl_sketch::sketch` meets its contract: the sketch is written at once, or the output is as it was and the sketch is made check by check.
-- Assumes nothing.
use mathlib.Core.Path.{refl}
use Rattle.error.proofs.Answers.{both-value}
use Rattle.setup.specs.Lent.{lent}
use Rattle.qjl_sketch.proofs.Answers.{sketch-again}
use Rattle.error.proofs.Clauses.{said_left}
use Rattle.qjl_sketch.proofs.sketch.Goals as goal

pub returns-then-sketch_at_once : goal.returns-then-sketch_at_once
returns-then-sketch_at_once c = said_left (both-value _ _ _ (c.sketch_at_once.ensures.made c.if-sketch_at_once.true) refl)

pub returns : goal.returns
returns c = said_left (let a = c.args in
    sketch-again a.setup (lent a.rotation.now a.directions.now a.matrix.now) a.vector.now _ _ _ _ (c.sketch_at_once.ensures.kept c.if-sketch_at_once.false) (c.sketch_checked.ensures.said, c.sketch_checked.ensures.left))

-- `polar::polar_pairs` meets its contract: 6, or the pairs. Assumes nothing.
use Rattle.std.proofs.Common.{length}
use Rattle.error.proofs.Answers.{both-refused, both-value}
use Rattle.polar.specs.Polar.{polar_pairs_of}
use Rattle.polar.proofs.Answers.{pairs-refused, pairs-value}
use Rattle.error.proofs.Clauses.{said_left}
use Rattle.polar.proofs.polar_pairs.Goals as goal

pub returns-then-out-needed : goal.returns-then-out-needed
returns-then-out-needed c = said_left (both-refused _ _ (pairs-refused _ _ _ _ c.if-out-needed.true))

pub returns : goal.returns
returns c = said_left (let a = c.args in
    both-value (polar_pairs_of a.directions.now a.indices.now a.radii.now (length a.out.now)) a.out.now c.fill_pairs.new.out
    (pairs-value a.directions.now a.indices.now a.radii.now (length a.out.now) c.if-out-needed.false)
    c.fill_pairs.ensures)

-- `turbo_opening::other_match` meets its contract: the two tests in the definition's order. Assumes nothing.
use Rattle.turbo_opening.proofs.Answers.{match-bits, match-projections}
use Rattle.turbo_opening.proofs.other_match.Goals as goal

pub returns-then-bits-polar_bits : goal.returns-then-bits-polar_bits
returns-then-bits-polar_bits c = let a = c.args in match-bits a.setup a.bits a.projections c.polar_bits.ensures c.if-bits-polar_bits.true

pub returns-else-bits-polar_bits : goal.returns-else-bits-polar_bits
returns-else-bits-polar_bits c = let a = c.args in match-projections a.setup a.bits a.projections c.polar_bits.ensures c.if-bits-polar_bits.false c.counted_projections.ensures

-- `polar_blocks::rest_sum` meets its contract. The invariant: the sum so far, with the terms from pair i on, is the whole. Assumes nothing.
use Rattle.std.proofs.Common.{◌+◌, ap, ◌∙◌, arith}
use Rattle.rounding.proofs.Running.{total-more, total-end}
use Rattle.polar.specs.Polar.{value_at}
use Rattle.polar_blocks.specs.Inner.{pair_term}
use Rattle.polar_blocks.proofs.rest_sum.Goals as goal

pub loop-i-preserved : goal.loop-i-preserved
loop-i-preserved c = let i = c.loop-i.i in
    let told = c.term_of-sum.ensures ∙ ap (pair_term c.args.directions.now c.args.rotated.now (value_at c.args.block.now i) (c.args.start + i)) c.word_from-word.ensures.first in
    total-more _ _ i c.loop-i.sum _ (omega arith) told c.loop-i.invariant

pub returns : goal.returns
returns c = total-end _ _ _ _ (omega arith) c.loop-i.invariant

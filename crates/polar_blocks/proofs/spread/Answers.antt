-- `polar_blocks::spread` meets its contract, by the laws of `Spreading`. Assumes nothing.
use Rattle.std.proofs.Common.{ℕ, ◌+◌, ◌*◌, ap, ◌∙◌}
use Rattle.polar.specs.Polar.{value_at}
use Rattle.polar_blocks.proofs.Spreading.{spread-start, spread-more, spread_end}
use Rattle.polar_blocks.proofs.spread.Goals as goal

pub loop-i-init : goal.loop-i-init
loop-i-init c = spread-start _ _ _ _ _ c.requires.double

pub loop-i-preserved : goal.loop-i-preserved
loop-i-preserved c = let index = c.index_at-direction.ensures.0 in
    spread-more _ _ _ _ _ c.requires.double _ _ c.loop-i-test.true c.loop-i.invariant _ _
    (c.value_at-c.ensures ∙ ap (λ (n : ℕ). value_at c.args.directions.now (2 * n)) index)
    (c.value_at-s.ensures ∙ ap (λ (n : ℕ). value_at c.args.directions.now (2 * n + 1)) index)

pub returns : goal.returns
returns c = spread_end _ _ _ _ _ c.requires.double _ _ c.loop-i-test.false c.loop-i.invariant

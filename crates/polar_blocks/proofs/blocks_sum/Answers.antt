-- `polar_blocks::blocks_sum` meets its contract. The invariant: what is left from pair `at` on, with the sum so far, is the whole. Assumes nothing.
use Rattle.std.proofs.Common.{◌≡◌, ◌+◌, sym, refl, ◌∙◌, arith}
use lib.Ieee.{of_bits}
use Rattle.polar_blocks.specs.Payload.{payload_sum_of}
use Rattle.polar_blocks.proofs.Blocks.{onward_from, onward-start, onward-turn, onward-none, onward-end, block-there}
use Rattle.polar_blocks.proofs.blocks_sum.Goals.{In_ok-sum}
use Rattle.polar_blocks.proofs.blocks_sum.Goals as goal

pub loop-at-init : goal.loop-at-init
unfolding of_bits
loop-at-init c = (refl, onward-start _ _ _ _ _ _ _ _ c.requires)

pub add_block-requires : goal.add_block-requires
add_block-requires c = block-there _ _ _ c.args.range _ _ _ _ c.requires _ _ (omega arith) c.loop-at.invariant.0 (omega arith)

pub returns-in_err-sum : goal.returns-in_err-sum
returns-in_err-sum c = rw c.from_residual.ensures (onward-none _ _ _ _ _ _ _ _ c.requires c.loop-at.at c.min-count.result (omega arith) _ (sym c.in_err-sum.was ∙ c.add_block.ensures) c.loop-at.invariant.1)

-- what is left after this block is the whole
turned : (c : In_ok-sum) → payload_sum_of c.args.directions.now c.args.rotated.now c.args.profile c.args.range c.args.radii.now c.args.indices.now c.args.bits c.args.pairs
    ≡ onward_from c.args.directions.now c.args.rotated.now c.args.profile c.args.range c.args.radii.now c.args.indices.now c.args.bits c.args.pairs (c.loop-at.at + 64) c.in_ok-sum.sum
turned c = onward-turn _ _ _ _ _ _ _ _ c.requires _ c.min-count.result (omega arith) (omega arith) (λ less. omega arith) _ _ (sym c.in_ok-sum.was ∙ c.add_block.ensures) c.loop-at.invariant.1

pub loop-at-preserved : goal.loop-at-preserved
loop-at-preserved c = (omega (arith, c.loop-at.invariant.0), turned (goal.at.loop-at-preserved c).In_ok-sum)

pub returns : goal.returns
returns c = sym (c.loop-at.invariant.1 ∙ onward-end _ _ _ _ _ _ _ _ c.requires _ _ (omega arith))

pub returns-in_ok-sum : goal.returns-in_ok-sum
returns-in_ok-sum c = sym (turned (goal.at.returns-in_ok-sum c).In_ok-sum ∙ onward-end _ _ _ _ _ _ _ _ c.requires _ _ (omega arith))

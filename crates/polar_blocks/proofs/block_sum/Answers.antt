-- `polar_blocks::block_sum` meets its contract. The invariant: the sum so far, with the terms from pair 4 k on, is the whole. Assumes nothing.
use Rattle.std.proofs.Common.{◌≡◌, ℕ, ◌+◌, ◌*◌, ◌%◌, ap, ◌∙◌, arith}
use lib.Ieee.{Float}
use Rattle.polar.specs.Polar.{value_at}
use Rattle.polar_blocks.specs.Inner.{index_at, pair_term}
use Rattle.polar_blocks.proofs.Blocks.{total-four}
use Rattle.polar_blocks.proofs.block_sum.Goals as goal

pub loop-k-preserved : goal.loop-k-preserved
loop-k-preserved c = let i = 4 * c.loop-k.k in
    let word = c.word_from-first.ensures in
    let at = c.args.start + i in
    let aligned : at % 4 ≡ 0 = omega (arith, c.requires.aligned) in
    let one : at + 1 ≡ c.args.start + (i + 1) = omega arith in
    let two : at + 2 ≡ c.args.start + (i + 2) = omega arith in
    let three : at + 3 ≡ c.args.start + (i + 3) = omega arith in
    let next : 4 * (c.loop-k.k + 1) ≡ i + 4 = omega arith in
    let index = index_at c.args.bits c.args.indices.now in
    let with-index : ℕ → ℕ → Float = λ (j : ℕ). pair_term c.args.directions.now c.args.rotated.now (value_at c.args.block.now j) (c.args.start + j) in
    rw next
    (total-four _ _ i c.loop-k.sum _ _ _ _ (omega arith)
    (c.term_of-sum.ensures ∙ ap (with-index i) word.first)
    (c.term_of-sum-in-loop-k.ensures ∙ ap (with-index (i + 1)) (word.second ∙ ap index one))
    (c.term_of-sum-in-loop-k-2.ensures ∙ ap (with-index (i + 2)) (word.third ∙ ap index two))
    (c.term_of-sum-in-loop-k-3.ensures ∙ ap (with-index (i + 3)) (word.fourth aligned ∙ ap index three))
    c.loop-k.invariant)

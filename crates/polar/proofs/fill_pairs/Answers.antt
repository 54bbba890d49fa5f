-- `polar::fill_pairs` meets its contract. The invariant: what is written so far, with the pairs from i on, is the whole. Assumes nothing.
use Rattle.std.proofs.Common.{ℕ, ◌+◌, length, ap, ◌∙◌, arith}
use Rattle.polar.specs.Polar.{value_at, along, across, decoded_pairs}
use Rattle.polar.proofs.Entries.{product_at}
use Rattle.polar.proofs.Loops.{laid-start, laid_more, laid_end}
use Rattle.polar.proofs.fill_pairs.Goals as goal

pub loop-i-init : goal.loop-i-init
unfolding decoded_pairs
loop-i-init c = laid-start _ _ _ c.args.out.now

pub loop-i-preserved : goal.loop-i-preserved
loop-i-preserved c = let here = c.loop-i in
    let directions = c.args.directions.now in
    let indices = c.args.indices.now in
    let radii = c.args.radii.now in
    let placed = c.direction_at-direction.ensures.0 in
    let cosine = c.value_at-c.ensures ∙ ap (value_at directions) placed in
    let sine = c.value_at-s.ensures ∙ ap (λ (n : ℕ). value_at directions (n + 1)) placed in
    laid_more (along directions indices radii) (across directions indices radii) (length radii) here.i here.out _ _ (omega arith) (omega arith)
    (product_at radii here.i _ (omega arith) cosine) (product_at radii here.i _ (omega arith) sine) here.invariant

pub returns : goal.returns
returns c = laid_end _ _ (length c.args.radii.now) c.loop-i.i c.loop-i.out (omega arith) (omega arith) c.loop-i.invariant

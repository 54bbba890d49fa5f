-- `radius_range::lane_range` meets its contract: each radius goes into a lane, and the lanes' ranges are the list's. Assumes nothing.
use Rattle.std.proofs.Common.{◌≡◌, ℕ, ◌+◌, ◌-◌, ◌*◌, ◌%◌, ◌<◌, T, true, false, List, ◌++◌, [], ◌∷◌, length, get_or, set, add_assoc, sym, ap, ◌∙◌, arith}
use Rattle.std.proofs.lemmas.List.{length_push}
use Rattle.std.specs.Slice.Iter.{chunks_exact_rest}
use lib.Seq.{take_all}
use lib.Ieee.{Float, nan, binary32, fits}
use borrow.Author.Tests.{not-true, not-false}
use Rattle.error.specs.Answer.{clear}
use Rattle.error.proofs.Places.{each-clear}
use Rattle.radius.specs.Radii.{range_of}
use Rattle.radius_range.specs.Inner.{not_positive}
use Rattle.radius_range.proofs.Best.{AllAbove, Both, pick, both-next, both_end}
use Rattle.radius_range.proofs.Blocks.{block-at, rest_item}
use Rattle.radius_range.proofs.lane_range.Goals as goal

-- each radius is an f32 above zero
above : (rs : List Float) → ((i : ℕ) → T (fits binary32 (get_or rs i nan))) → clear not_positive rs ≡ true → AllAbove rs
above rs f e i l = record { fit = f i; positive = not-false _ (each-clear not_positive rs nan (not-true _ e) i l) }

-- one more radius, which is read from a part of the list that begins at n
both-read : (rs part low high : List Float) (n j : ℕ) (v w : Float) → AllAbove rs → get_or part j nan ≡ get_or rs (n + j) nan → n + j < length rs → j < 16 → v ≡ pick false (get_or part j nan) (get_or low j nan) → w ≡ pick true (get_or part j nan) (get_or high j nan) → Both rs low high (n + j) → Both rs (set low j v) (set high j w) (n + (j + 1))
both-read rs part low high n j v w up item h l e f inv = rw (← add_assoc n j 1) (both-next rs up low high (n + j) j v w h l (rw item at e) (rw item at f) inv)

pub loop-i-preserved : goal.loop-i-preserved
loop-i-preserved c = let rs = c.args.radii.now in
    let h = c.in-Some.ensures.steps in
    let s = c.loop-block.invariant in
    let b = block-at rs _ c.in-Some.block.now _ 16 (16 * length c.loop-block.yielded) s.both.within s.rest h.1.0 (h.1.1 ∙ s.size) in
    both-read rs c.in-Some.block.now _ _ _ _ _ _ (above rs c.type_inv.radii c.requires.1) (rw (sym b.begins) at (b.item c.loop-i.i nan c.loop-i-test.true)) (omega (arith, b.begins, b.inside)) c.loop-i-test.true c.lesser.ensures c.greater.ensures c.loop-i.invariant

pub loop-block-preserved : goal.loop-block-preserved
loop-block-preserved c = let rs = c.args.radii.now in
    let h = c.in-Some.ensures.steps in
    let s = c.loop-block.invariant in
    let b = block-at rs _ c.in-Some.block.now _ 16 (16 * length c.loop-block.yielded) s.both.within s.rest h.1.0 (h.1.1 ∙ s.size) in
    let next : 16 * length (c.loop-block.yielded ++ (c.in-Some.block ∷ [])) ≡ 16 * length c.loop-block.yielded + 16 = omega (arith, length_push c.loop-block.yielded c.in-Some.block) in
    let all : length rs - (16 + length (chunks_exact_rest c.next.new.self)) + c.loop-i.i ≡ 16 * length c.loop-block.yielded + 16 = omega (arith, b.begins) in
    record { size = h.0 ∙ s.size; rest = rw next b.left; both = rw next (rw all at c.loop-i.invariant) }

pub loop-lane-preserved : goal.loop-lane-preserved
loop-lane-preserved c = let rs = c.args.radii.now in
    let short : length c.remainder-rest.result.now ≡ length rs % 16 = ap length c.remainder-rest.ensures ∙ c.chunks_exact-blocks.ensures.remainder_len in
    both-read rs c.remainder-rest.result.now _ _ _ _ _ _ (above rs c.type_inv.radii c.requires.1) (rest_item rs _ _ (omega arith) (c.remainder-rest.ensures ∙ c.chunks_exact-blocks.ensures.remainder) c.loop-lane.lane nan) (omega arith) (omega arith) c.lesser-in-loop-lane.ensures c.greater-in-loop-lane.ensures c.loop-lane.invariant

pub returns : goal.returns
returns c = let rs = c.args.radii.now in
    let l = c.loop-lane in
    let short : length c.remainder-rest.result.now ≡ length rs % 16 = ap length c.remainder-rest.ensures ∙ c.chunks_exact-blocks.ensures.remainder_len in
    let all : length rs - length c.remainder-rest.result.now + l.lane ≡ length rs = omega arith in
    let both = rw all at l.invariant in
    let low = c.range_of-least.ensures ∙ ap range_of (take_all 16 l.low (omega (arith, both.least.long))) in
    let high = c.range_of-greatest.ensures ∙ ap range_of (take_all 16 l.high (omega (arith, both.greatest.long))) in
    cc (low, high, both_end rs (above rs c.type_inv.radii c.requires.1) l.low l.high c.requires.0 both)

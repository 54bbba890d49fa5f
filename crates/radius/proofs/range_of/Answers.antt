-- `radius::range_of` meets its contract: a turn moves one radius from what is left into the least and the greatest. Assumes nothing.
use Rattle.std.proofs.Common.{◌≡◌, ◌+◌, ◌-◌, ◌<◌, cond, length, get_or, take, drop, add_assoc, sym, ◌∙◌, arith}
use Rattle.std.proofs.lemmas.List.{get_or-take, get_or-drop}
use lib.Ieee.{nan, lt, of_bits}
use Rattle.radius.proofs.Radii.{range_none, range-start, range-step, range_end}
use Rattle.radius.proofs.range_of.Goals.{Joined-max-radius, Joined-radius-min, else-max-radius, else-radius-min, then-max-radius, then-radius-min}
use Rattle.radius.proofs.range_of.Goals as goal

pub returns-then-radii-eq0 : goal.returns-then-radii-eq0
unfolding of_bits
returns-then-radii-eq0 c = sym (range_none _ c.if-radii-eq0.true)

pub loop-radius-init : goal.loop-radius-init
loop-radius-init c = range-start _ nan (omega (arith, c.if-radii-eq0.false))

-- where the arms of each test meet
lowered : (c : goal.Joined-radius-min) → let r = get_or (take (length c.args.radii.now - 1) (drop 1 c.args.radii.now)) c.loop-radius.radius-index nan in c.if-radius-min.min ≡ cond (lt r c.loop-radius.min) r c.loop-radius.min
lowered c = elim c.if-radius-min.branch [ then-radius-min w ↦ simp w.if-radius-min.true w.min-is | else-radius-min w ↦ simp w.if-radius-min.false w.min-is ]

raised : (c : goal.Joined-max-radius) → let r = get_or (take (length c.args.radii.now - 1) (drop 1 c.args.radii.now)) c.loop-radius.radius-index nan in c.if-max-radius.max ≡ cond (lt c.loop-radius.max r) r c.loop-radius.max
raised c = elim c.if-max-radius.branch [ then-max-radius w ↦ simp w.if-max-radius.true w.max-is | else-max-radius w ↦ simp w.if-max-radius.false w.max-is ]

pub loop-radius-preserved : goal.loop-radius-preserved
loop-radius-preserved c = let s = c.loop-radius in
    let rs = c.args.radii.now in
    let h : s.radius-index < length rs - 1 = omega arith in
    let item = get_or-take (length rs - 1) (drop 1 rs) s.radius-index nan h ∙ get_or-drop 1 rs s.radius-index nan in
    rw (← add_assoc 1 s.radius-index 1) (s.invariant ∙ range-step rs (1 + s.radius-index) nan s.min s.max (omega arith) ∙ cc (item, lowered (goal.at.loop-radius-preserved c).Joined-radius-min, raised (goal.at.loop-radius-preserved c).Joined-max-radius))

pub returns : goal.returns
returns c = let s = c.loop-radius in
    sym (s.invariant ∙ range_end c.args.radii.now (1 + s.radius-index) _ _ (omega arith))

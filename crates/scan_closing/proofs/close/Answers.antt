-- `scan_closing::close` meets its contract: in the loop the list is `filled` up to the index, which at its end is as far as closing writes. Assumes nothing.
use Rattle.std.proofs.Common.{◌≡◌, ◌<◌, length, List, set, sym, ap, ◌∙◌, arith, add-one}
use borrow.Author.Rules.{scaled_Fits}
use Rattle.ranking.specs.declared.Hit.{Hit}
use Rattle.scan_closing.specs.Closing.{hit_at_of}
use Rattle.scan_closing.proofs.Filling.{filled, filled_none, filled-one, filled-written, written-most}
use Rattle.scan_closing.proofs.Closing.{hits-led}
use Rattle.scan_closing.proofs.close.Goals as goal

-- the index stands before the end of the list
within : (c : goal.After-hit_at) → c.loop-i.i < length c.args.out.now
within c = omega (arith, c.loop-i-test.true, c.written-n.ensures, written-most c.args.scan (length c.args.out.now))

pub loop-i-init : goal.loop-i-init
loop-i-init c = sym (filled_none c.args.scan c.args.out.now)

pub offset_bounds-out-i : goal.offset_bounds-out-i
offset_bounds-out-i c = scaled_Fits _ (length c.args.out.now) 8 (within c) c.well_formed.1.0.1

pub bounds-out-i : goal.bounds-out-i
bounds-out-i c = omega (arith, within c, c.loop-i.auto.out)

pub loop-i-preserved : goal.loop-i-preserved
loop-i-preserved c = let scan = c.args.scan in
    let xs = c.args.out.now in
    let l = c.loop-i in
    ap (λ (h : Hit). set l.out l.i h) c.hit_at.ensures
    ∙ ap (λ (ys : List Hit). set ys l.i (hit_at_of scan l.i)) l.invariant
    ∙ filled-one scan xs l.i (within c)
    ∙ ap (filled scan xs) (sym (add-one l.i))

pub returns-clause-left : goal.returns-clause-left
returns-clause-left c = let scan = c.args.scan in
    let xs = c.args.out.now in
    let end : c.loop-i.i ≡ c.written-n.result = omega arith in
    c.loop-i.invariant ∙ ap (filled scan xs) (end ∙ c.written-n.ensures) ∙ filled-written scan xs

pub returns-clause-led : goal.returns-clause-led
returns-clause-led c = hits-led c.args.scan

-- `scan_entering::find_place` meets its contract: each round makes one comparison, and a round that goes on leaves the place as it is, and the comparisons made with those
-- to come. Assumes nothing.
use Rattle.std.proofs.Common.{◌≡◌, sym, ap, ◌∙◌, arith}
use Rattle.scan.specs.Entering.{place_up, compared_up}
use Rattle.scan_entering.proofs.Putting.{up_none, up-stopped, up-passed}
use Rattle.scan_entering.proofs.find_place.Goals as goal

pub returns-then-not-scores-i : goal.returns-then-not-scores-i
returns-then-not-scores-i c = let a = c.args in
    let inv = c.loop-i.invariant in
    let here = up-stopped a.score a.scores.now c.loop-i.i c.loop-i-test.true c.if-not-scores-i.true in
    record { at = omega (arith, inv.1, here.0); within = omega arith; compared = omega (arith, inv.2, here.1) }

pub loop-i-preserved : goal.loop-i-preserved
loop-i-preserved c = let a = c.args in
    let inv = c.loop-i.invariant in
    let passed = up-passed a.score a.scores.now c.loop-i.i c.loop-i-test.true c.if-not-scores-i.false in
    (omega arith, inv.1 ∙ passed.0, omega (arith, inv.2, passed.1))

pub returns : goal.returns
returns c = let a = c.args in
    let inv = c.loop-i.invariant in
    let end : c.loop-i.i ≡ 0 = omega arith in
    let none = up_none a.score a.scores.now in
    record { at = sym (inv.1 ∙ ap (place_up a.score a.scores.now) end ∙ none.0); within = omega arith; compared = omega (arith, inv.2, ap (compared_up a.score a.scores.now) end, none.1) }

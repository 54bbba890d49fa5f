-- `scan_many::check_ends` meets its contract: each end that passes leaves those behind it. Assumes nothing.
use Rattle.std.proofs.Common.{◌≡◌, true, false, [], ◌∷◌, get_or, sym, ap, ◌∙◌, ⊎_elim, arith}
use borrow.Author.Tests.{lt-ltb, le-ltb}
use Rattle.error.specs.Answer.{Check, first, accepted}
use Rattle.scan_many.proofs.Many.{bad_end, ends-done, ends-bad, ends-good}
use Rattle.scan_many.proofs.check_ends.Goals as goal

pub returns-then-end-start : goal.returns-then-end-start
returns-then-end-start c = let a = c.args in
    let l = c.loop-end in
    let e = get_or a.ends.now l.end-index 0 in
    let bad : bad_end a.long l.start e ≡ true = ⊎_elim (λ w. simp (lt-ltb e l.start w)) (λ w. simp (le-ltb e l.start w.0, lt-ltb a.long e w.1)) c.then-end-start.either in
    sym (ap (λ (k : Check). first (k ∷ []) accepted) (l.invariant ∙ ends-bad a.long l.start a.ends.now l.end-index c.loop-end-test.true bad))

pub loop-end-preserved : goal.loop-end-preserved
loop-end-preserved c = let a = c.args in
    let l = c.loop-end in
    let e = get_or a.ends.now l.end-index 0 in
    let good : bad_end a.long l.start e ≡ false = simp (le-ltb e l.start (omega arith), le-ltb a.long e (omega arith)) in
    l.invariant ∙ ends-good a.long l.start a.ends.now l.end-index c.loop-end-test.true good

pub returns : goal.returns
returns c = let l = c.loop-end in
    sym (ap (λ (k : Check). first (k ∷ []) accepted) (l.invariant ∙ ends-done _ _ _ _ c.loop-end-test.false))

-- `scan::open` meets its contract: each return is one case of the length's check. Assumes nothing.
use mathlib.Core.Logic.{⊎_elim}
use native.Mathlib.Omega.{arith}
use borrow.Author.Tests.{lt-ltb, le-ltb}
use Prim.Native.Nat.{◌≤◌}
use Rattle.scan.proofs.Opening.{open_none, open-many, open-passed, open-refused, open_done, one-or-more, empty-led}
use Rattle.scan.proofs.open.Goals as goal

pub returns-then-length-eq0 : goal.returns-then-length-eq0
returns-then-length-eq0 c = let k = c.args.length in
    let r = open-refused k (⊎_elim (λ w. open_none k w) (λ w. open-many k w.0 (lt-ltb 64 k w.1)) c.then-length-eq0.either) c.empty-scan.ensures in
    record { said = r.0; left = r.1; led = empty-led 1 (omega arith) (omega arith) c.empty-scan.ensures }

pub returns : goal.returns
returns c = let k = c.args.length in
    let r = open_done k (open-passed k c.if-length-eq0.false (le-ltb 64 k c.if-length-gt64.false)) c.empty-scan-2.ensures in
    let more : 1 ≤ k = one-or-more k c.if-length-eq0.false in
    record { said = r.0; left = r.1; led = empty-led k more c.if-length-gt64.false c.empty-scan-2.ensures }

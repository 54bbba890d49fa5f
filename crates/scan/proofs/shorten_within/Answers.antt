-- `scan::shorten_within` meets its contract: each return is one case of the length's check. Assumes nothing.
use mathlib.Core.Path.{sym, ap, subst}
use Prim.Native.Nat.{ℕ}
use mathlib.Core.Logic.{⊎_elim}
use mathlib.Core.List.{◌∷◌}
use borrow.Author.Tests.{lt-ltb, le-ltb}
use Rattle.scan.specs.declared.Tally.{Tally}
use Rattle.scan.specs.Scans.{scan_of, tally_of}
use Rattle.scan.specs.Shortening.{asked}
use Rattle.scan.specs.History.{Led}
use Rattle.scan.proofs.Shortening.{refused_none, refused-above, given-some, shorten-refused, shorten-given, shortened-led, as-opened}
use Rattle.scan.proofs.shorten_within.Goals as goal

pub returns-then-length-eq0 : goal.returns-then-length-eq0
returns-then-length-eq0 c = let tally = c.args.tally in
    let n = c.args.length in
    let r = shorten-refused tally n (⊎_elim (λ w. refused_none tally n w) (λ w. refused-above tally n w.0 (lt-ltb tally.length n w.1)) c.then-length-eq0.either) in
    record { said = r.0; left = r.1; led = (λ k earlier numbers scores led. subst (λ (t : Tally). Led k (asked n ∷ earlier) (scan_of t numbers scores)) (sym r.1) (shortened-led k earlier (scan_of tally numbers scores) n led)); alike = as-opened }

pub returns : goal.returns
returns c = let tally = c.args.tally in
    let n = c.args.length in
    let r =
    shorten-given tally n (given-some tally n c.if-length-eq0.false (le-ltb tally.length n c.if-tally-length.false))
    (ap (λ (m : ℕ). tally_of n m tally.taken tally.refused tally.withdrawn tally.comparisons) c.least.ensures) in
    record { said = r.0; left = r.1; led = (λ k earlier numbers scores led. subst (λ (t : Tally). Led k (asked n ∷ earlier) (scan_of t numbers scores)) (sym r.1) (shortened-led k earlier (scan_of tally numbers scores) n led)); alike = as-opened }

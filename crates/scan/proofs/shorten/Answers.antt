-- `scan::shorten` meets its contract: the tally is shortened, and both lists stay. Assumes nothing.
use mathlib.Core.Path.{sym, ap, subst}
use mathlib.Core.List.{◌∷◌}
use Rattle.scan.specs.declared.Tally.{Tally}
use Rattle.scan.specs.declared.Scan.{Scan}
use Rattle.scan.specs.Scans.{scan_of}
use Rattle.scan.specs.Shortening.{asked}
use Rattle.scan.specs.History.{Led}
use Rattle.scan.proofs.Shortening.{shortened-led, as-opened}
use Rattle.scan.proofs.shorten.Goals as goal

pub returns : goal.returns
returns c = let scan = c.args.scan in
    let n = c.args.length in
    let shorter = c.shorten_within-shorter.ensures in
    let left = ap (λ (t : Tally). scan_of t scan.numbers scan.scores) shorter.left in
    record { said = shorter.said; left = left; led = (λ k earlier led. subst (λ (s : Scan). Led k (asked n ∷ earlier) s) (sym left) (shortened-led k earlier scan n led)); alike = as-opened }

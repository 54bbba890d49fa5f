-- `scan_many::take_many` meets its contract: the two arrays are lent whole, and the history with these records leads to the scan. Assumes nothing.
use mathlib.Core.Path.{sym, ap, ◌∙◌, subst}
use mathlib.Core.List.{◌++◌, map, reverse}
use native.Mathlib.Omega.{arith}
use Rattle.error.specs.Answer.{done, after}
use Rattle.scan.specs.declared.Scan.{Scan}
use Rattle.scan.proofs.Arrays.{numbers-long, scores-long, lent-all, lent-whole}
use Rattle.scan.specs.Shortening.{came}
use Rattle.scan_taking.specs.Taking.{LedBy}
use Rattle.scan_taking.proofs.Taking.{as-by_query}
use Rattle.scan_many.specs.Many.{take_many_of, takings_of}
use Rattle.scan_many.proofs.Led.{many-led}
use Rattle.scan_many.proofs.take_many.Goals as goal

pub slice_bounds-numbers-end : goal.slice_bounds-numbers-end
slice_bounds-numbers-end c = omega (arith, numbers-long c.args.scan _ c.well_formed.0)

pub slice_bounds-scores-end : goal.slice_bounds-scores-end
slice_bounds-scores-end c = omega (arith, scores-long c.args.scan _ c.well_formed.0)

pub returns : goal.returns
returns c = let a = c.args in
    let scan = a.scan in
    let n = numbers-long scan _ c.well_formed.0 in
    let m = scores-long scan _ c.well_formed.0 in
    let said = c.take_many_within-many.ensures.said ∙ ap (λ (s : Scan). done (take_many_of s a.setup a.directions.now a.rotated.now a.projected.now a.bytes.now a.ends.now)) (lent-all scan n m) in
    let left = lent-whole scan n m (λ (s : Scan). after (take_many_of s a.setup a.directions.now a.rotated.now a.projected.now a.bytes.now a.ends.now) s) c.take_many_within-many.ensures.left in
    record { said = said; left = left; led = (λ k earlier e led. subst (λ (s : Scan). LedBy k (reverse (map came (takings_of a.setup a.directions.now a.rotated.now a.projected.now a.bytes.now a.ends.now)) ++ earlier) s) (sym left) (many-led scan a.setup a.directions.now a.rotated.now a.projected.now a.bytes.now a.ends.now k earlier (sym said ∙ e) led)); plain = as-by_query a.setup a.directions.now a.rotated.now a.projected.now }

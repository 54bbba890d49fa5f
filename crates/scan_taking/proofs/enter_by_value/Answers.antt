-- `scan_taking::enter_by_value` meets its contract: the two arrays are lent whole, and hold what they are left with. Assumes nothing.
use mathlib.Core.Path.{refl}
use native.Mathlib.Omega.{arith}
use Rattle.turbo_phased.specs.Estimates.{says_phased}
use Rattle.scan.specs.declared.Scan.{Scan}
use Rattle.scan.proofs.Arrays.{numbers-long, scores-long, lent-whole}
use Rattle.scan.specs.Events.{after_taking}
use Rattle.scan_taking.proofs.enter_by_value.Goals as goal

pub slice_bounds-numbers-end : goal.slice_bounds-numbers-end
slice_bounds-numbers-end c = omega (arith, numbers-long c.args.scan _ c.well_formed.0)

pub slice_bounds-scores-end : goal.slice_bounds-scores-end
slice_bounds-scores-end c = omega (arith, scores-long c.args.scan _ c.well_formed.0)

pub returns : goal.returns
returns c = let scan = c.args.scan in
    record { said = refl; left = lent-whole scan (numbers-long scan _ c.well_formed.0) (scores-long scan _ c.well_formed.0) (λ (s : Scan). after_taking s (says_phased c.args.answer)) c.enter_phased-counts.ensures }

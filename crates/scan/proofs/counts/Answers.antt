-- `scan::counts` meets its contract: the counts are the scan's own, and so the history's. Assumes nothing.
use mathlib.Core.Path.{refl}
use Rattle.scan.proofs.Load.{load}
use Rattle.scan.proofs.counts.Goals as goal

pub returns : goal.returns
returns c = record { said = refl; led = (λ k es led. (led.hits.kept, led.counts)); comparisons = (λ k es led. led.comparisons); load = load }

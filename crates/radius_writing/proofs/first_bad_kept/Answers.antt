-- `radius_writing::first_bad_kept` meets its contract: where the pass finds nothing, the place is the length. Assumes nothing.
use Rattle.error.proofs.Sweep.{clear-place}
use Rattle.radius_writing.specs.Inner.{bad_kept}
use Rattle.radius_writing.proofs.first_bad_kept.Goals as goal

pub returns-then-all_kept : goal.returns-then-all_kept
returns-then-all_kept c = clear-place (bad_kept _) _ (c.all_kept.ensures c.if-all_kept.true)

-- `scan_entering::put_score` meets its contract: those behind the place are moved down, and the item is stored. Assumes nothing.
use Rattle.std.proofs.Common.{List, set, ap, ◌∙◌}
use lib.Ieee.{Float}
use Rattle.scan_entering.proofs.Putting.{put-stored}
use Rattle.scan_entering.proofs.put_score.Goals as goal

pub returns : goal.returns
returns c = let a = c.args in
    ap (λ (xs : List Float). set xs a.at a.x) c.copy_within.ensures.after ∙ put-stored _ _ _ _ c.requires.0 c.requires.1

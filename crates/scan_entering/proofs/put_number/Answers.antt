-- `scan_entering::put_number` meets its contract: those behind the place are moved down, and the item is stored. Assumes nothing.
use Rattle.std.proofs.Common.{ℕ, List, set, ap, ◌∙◌}
use Rattle.scan_entering.proofs.Putting.{put-stored}
use Rattle.scan_entering.proofs.put_number.Goals as goal

pub returns : goal.returns
returns c = let a = c.args in
    ap (λ (xs : List ℕ). set xs a.at a.x) c.copy_within.ensures.after ∙ put-stored _ _ _ _ c.requires.0 c.requires.1

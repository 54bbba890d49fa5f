-- `scan_closing::hit_at` meets its contract. Assumes nothing.
use mathlib.Core.Path.{refl}
use Rattle.scan_closing.specs.Closing.{hit_at_of}
use Rattle.scan_closing.proofs.hit_at.Goals as goal

pub returns : goal.returns
unfolding hit_at_of
returns c = refl

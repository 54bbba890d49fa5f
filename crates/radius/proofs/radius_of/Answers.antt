-- `radius::radius_of` meets its contract: the definition's steps, one by one. Assumes nothing.
use mathlib.Core.Path.{refl}
use Rattle.radius.specs.Linear.{radius_of}
use Rattle.radius.proofs.radius_of.Goals as goal

pub returns : goal.returns
unfolding radius_of
returns c = refl

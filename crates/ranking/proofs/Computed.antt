-- Zeros and equal scores stand by number: four hits are sorted by computing. Assumes nothing.
use mathlib.Core.Path.{refl}
use lib.Ieee.{lt}
use Rattle.ranking.specs.Ranked.{beats, before, placed, sorted}
use Rattle.ranking.specs.Sorting.{Ties}

pub ties : Ties
unfolding lt beats before placed sorted
ties = record { rising = refl; falling = refl }

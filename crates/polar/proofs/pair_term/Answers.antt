-- `polar::pair_term` meets its contract: each factor is what its call says, and the radius lies within the slice. Assumes nothing.
use lib.Ieee.{nan}
use Rattle.float.specs.Constants.{pos_zero}
use Rattle.polar.specs.Polar.{term}
use Rattle.rounding.proofs.Lists.{get_d_any}
use Rattle.polar.proofs.pair_term.Goals as goal

pub returns : goal.returns
unfolding term
returns c = let placed = c.direction_at-direction.ensures.0 in
    rw (get_d_any c.args.radii.now nan pos_zero c.args.i c.requires, c.value_at-qa.ensures, c.value_at-qb.ensures, c.value_at-c.ensures, c.value_at-s.ensures, placed)

-- `polar_blocks::term_of` meets its contract: each factor lies within its slice. Assumes nothing.
use Prim.Native.Nat.{◌+◌, ◌*◌}
use lib.Ieee.{nan}
use native.Mathlib.Omega.{arith}
use Rattle.float.specs.Constants.{pos_zero}
use Rattle.rounding.proofs.Lists.{get_d_any}
use Rattle.polar_blocks.specs.Inner.{pair_term}
use Rattle.polar_blocks.proofs.term_of.Goals as goal

pub returns : goal.returns
unfolding pair_term
returns c = let low = c.lowest-d in
    let i = c.args.i in
    let pair = 2 * (c.args.start + i) in
    rw
    (get_d_any c.args.block.now nan pos_zero i c.requires.within, get_d_any c.args.rotated.now nan pos_zero pair (omega (arith, c.requires.query)), get_d_any c.args.rotated.now nan pos_zero (pair + 1) c.requires.query, get_d_any c.args.directions.now nan pos_zero (2 * low.result) (omega (arith, low.ensures.1, c.requires.table)), get_d_any c.args.directions.now nan pos_zero (2 * low.result + 1) (omega (arith, low.ensures.1, c.requires.table)), low.ensures.0)

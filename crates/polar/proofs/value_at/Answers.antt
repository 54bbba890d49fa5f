-- `polar::value_at` meets its contract: within the slice the default does not matter, and outside it is +0.0. Assumes nothing.
use Rattle.std.proofs.Common.{sym}
use lib.ListN.{get_or-eq_default}
use lib.Ieee.{of_bits, nan}
use Rattle.float.specs.Constants.{pos_zero}
use Rattle.rounding.proofs.Lists.{get_d_any}
use Rattle.polar.proofs.value_at.Goals as goal

pub returns-then-i-values : goal.returns-then-i-values
returns-then-i-values c = get_d_any c.args.values.now nan pos_zero c.args.i c.if-i-values.true

pub returns-else-i-values : goal.returns-else-i-values
unfolding of_bits
returns-else-i-values c = sym (get_or-eq_default c.args.values.now pos_zero c.if-i-values.false)

-- `radius_reading::read_linear` meets its contract: every radius so far is that of its two bytes. Assumes nothing.
use Prim.Native.Nat.{ℕ, ◌<◌, ◌*◌}
use mathlib.Core.Path.{◌≡◌}
use lib.ListN.{get_or}
use Rattle.digits.specs.Inner.{two_at}
use Rattle.float.specs.Constants.{pos_zero}
use Rattle.radius.specs.Linear.{linear_radius}
use Rattle.radius_reading.proofs.read_linear.Given as goal

abbrev pub invariant-loop-i : goal.invariant-loop-i
invariant-loop-i l = (k : ℕ) → k < l.i → get_or l.out k pos_zero ≡ linear_radius l.range (two_at l.payload (2 * k))

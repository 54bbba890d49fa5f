-- `radius_reading::find_bad_linear` meets its contract: no two bytes before the place are refused. Assumes nothing.
use Prim.Native.Nat.{ℕ, ◌<◌, ◌*◌}
use mathlib.Core.Path.{◌≡◌}
use mathlib.Core.Bool.{false}
use Rattle.digits.specs.Inner.{two_at}
use Rattle.radius.specs.Linear.{linear_radius}
use Rattle.radius.specs.Radii.{bad_radius}
use Rattle.radius_reading.proofs.find_bad_linear.Given as goal

abbrev pub invariant-loop-i : goal.invariant-loop-i
invariant-loop-i l = (k : ℕ) → k < l.i → bad_radius (linear_radius l.range (two_at l.payload (2 * k))) ≡ false

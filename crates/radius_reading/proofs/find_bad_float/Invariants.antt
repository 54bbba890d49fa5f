-- `radius_reading::find_bad_float` meets its contract: no four bytes before the place are refused. Assumes nothing.
use Prim.Native.Nat.{ℕ, ◌<◌, ◌*◌}
use mathlib.Core.Path.{◌≡◌}
use mathlib.Core.Bool.{false}
use Rattle.digits.specs.Inner.{four_at}
use Rattle.float.specs.Bytes.{of_le_bytes}
use Rattle.radius.specs.Radii.{bad_radius}
use Rattle.radius_reading.proofs.find_bad_float.Given as goal

abbrev pub invariant-loop-i : goal.invariant-loop-i
invariant-loop-i l = (k : ℕ) → k < l.i → bad_radius (of_le_bytes (four_at l.payload (4 * k))) ≡ false

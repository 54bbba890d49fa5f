-- `radius_reading::read_floats` meets its contract: every float so far is that of its four bytes. Assumes nothing.
use Prim.Native.Nat.{ℕ, ◌<◌, ◌*◌}
use mathlib.Core.Path.{◌≡◌}
use lib.ListN.{get_or}
use Rattle.digits.specs.Inner.{four_at}
use Rattle.float.specs.Constants.{pos_zero}
use Rattle.float.specs.Bytes.{of_le_bytes}
use Rattle.radius_reading.proofs.read_floats.Given as goal

abbrev pub invariant-loop-i : goal.invariant-loop-i
invariant-loop-i l = (k : ℕ) → k < l.i → get_or l.out k pos_zero ≡ of_le_bytes (four_at l.payload (4 * k))

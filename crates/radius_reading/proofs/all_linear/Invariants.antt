-- `radius_reading::all_linear` meets its contract: where both flags stand, every radius so far passed both tests. Assumes nothing.
use Prim.Native.Nat.{ℕ, ◌<◌, ◌*◌}
use mathlib.Core.Path.{◌≡◌}
use mathlib.Core.Bool.{true, false}
use lib.Ieee.{binary32, of_bits, lt}
use Rattle.digits.specs.Inner.{two_at}
use Rattle.float.specs.Constants.{pos_zero}
use Rattle.radius.specs.Linear.{linear_radius}
use Rattle.radius_reading.proofs.all_linear.Given as goal

abbrev pub invariant-loop-i : goal.invariant-loop-i
invariant-loop-i l = record {
  above : l.above ≡ true → (k : ℕ) → k < l.i → lt (linear_radius l.range (two_at l.payload (2 * k))) pos_zero ≡ false;
  finite : l.finite ≡ true → (k : ℕ) → k < l.i → lt (linear_radius l.range (two_at l.payload (2 * k))) (of_bits binary32 0x7F80_0000) ≡ true;
}

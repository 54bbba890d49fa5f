-- `radius_reading::all_plain` meets its contract: where the flag stands, every pattern so far is below that of infinity. Assumes nothing.
use Prim.Native.Nat.{ℕ, ◌<◌, ◌*◌}
use mathlib.Core.Path.{◌≡◌}
use mathlib.Core.Bool.{true}
use Rattle.digits.specs.Digits.{number}
use Rattle.digits.specs.Inner.{four_at}
use Rattle.radius_reading.proofs.all_plain.Given as goal

abbrev pub invariant-loop-i : goal.invariant-loop-i
invariant-loop-i l = l.ok ≡ true → (k : ℕ) → k < l.i → number 256 (four_at l.payload (4 * k)) < 0x7F80_0000

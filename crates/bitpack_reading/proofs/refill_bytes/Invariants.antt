-- `bitpack_reading::refill_bytes` meets its contract: the loop keeps the same bits in the window and behind it. Assumes nothing.
use Prim.Native.Nat.{◌+◌, ◌*◌, ◌-◌, ◌^◌}
use mathlib.Core.Path.{◌≡◌}
use lib.ListN.{drop}
use Rattle.digits.specs.Digits.{number}
use Rattle.bitpack_reading.specs.Inner.{Refillable}
use Rattle.bitpack_reading.proofs.refill_bytes.Given as goal

abbrev pub invariant-loop-held : goal.invariant-loop-held
invariant-loop-held l = (Refillable l.packed l.width l.acc l.held l.at) × ((8 * l.at + l.before ≡ 8 * l.from + l.held) × (l.acc + 2 ^ l.held * number 256 (drop l.at l.packed) ≡ l.had + 2 ^ l.before * number 256 (drop l.from l.packed)))

abbrev pub decreases-loop-held : goal.decreases-loop-held
decreases-loop-held l = l.width - l.held

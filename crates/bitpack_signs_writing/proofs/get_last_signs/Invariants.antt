-- `bitpack_signs_writing::get_last_signs` meets its contract: the loop goes down and keeps `LastBits`. Assumes nothing.
use Prim.Native.Nat.{◌≤◌}
use mathlib.Core.List.{map}
use Rattle.bitpack.specs.Signs.{bit_of_sign}
use Rattle.bitpack_signs_writing.proofs.SignPacking.{LastBits}
use Rattle.bitpack_signs_writing.proofs.get_last_signs.Given as goal

abbrev pub invariant-loop-i : goal.invariant-loop-i
invariant-loop-i l = (l.from ≤ l.i) × LastBits (map bit_of_sign l.signs) l.i l.bits

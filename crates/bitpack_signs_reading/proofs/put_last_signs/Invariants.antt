-- `bitpack_signs_reading::put_last_signs` meets its contract: the loop keeps that what is written and what is left are the signs of the digits. Assumes nothing.
use Prim.Native.Nat.{◌-◌}
use mathlib.Core.Path.{◌≡◌}
use mathlib.Core.List.{◌++◌, map}
use lib.ListN.{length, take}
use Rattle.digits.specs.Digits.{digits}
use Rattle.bitpack.specs.Signs.{sign_of_bit}
use Rattle.bitpack_signs_reading.proofs.put_last_signs.Given as goal

abbrev pub invariant-loop-x : goal.invariant-loop-x
invariant-loop-x l = map sign_of_bit (digits 2 (length l.initial.x-items) l.last) ≡ take l.x-index l.x-items ++ map sign_of_bit (digits 2 (length l.x-items - l.x-index) l.bits)

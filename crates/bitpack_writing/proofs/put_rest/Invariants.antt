-- `bitpack_writing::put_rest` meets its contract: the loop keeps that what is written and what is left are the digits. Assumes nothing.
use Prim.Native.Nat.{◌-◌}
use mathlib.Core.Path.{◌≡◌}
use mathlib.Core.List.{◌++◌}
use lib.ListN.{length, take}
use Rattle.digits.specs.Digits.{digits}
use Rattle.bitpack_writing.proofs.put_rest.Given as goal

abbrev pub invariant-loop-k : goal.invariant-loop-k
invariant-loop-k l = take l.from l.initial.out ++ digits 256 (length l.initial.out - l.from) l.rest ≡ take l.k l.out ++ digits 256 (length l.out - l.k) l.acc

-- `radius_writing::write_linear` meets its contract: the front holds the bytes of the radii so far. Assumes nothing.
use Prim.Native.Nat.{◌*◌}
use mathlib.Core.Path.{◌≡◌}
use mathlib.Core.List.{flat_map}
use lib.ListN.{take}
use Rattle.radius.specs.Linear.{linear_bytes}
use Rattle.radius_writing.proofs.write_linear.Given as goal

abbrev pub invariant-loop-i : goal.invariant-loop-i
invariant-loop-i l = take (2 * l.i) l.out ≡ flat_map (linear_bytes l.fn.range) (take l.i l.radii)

-- `radius_writing::write_floats` meets its contract: the front holds the bytes of the radii so far. Assumes nothing.
use Prim.Native.Nat.{◌*◌}
use mathlib.Core.Path.{◌≡◌}
use mathlib.Core.List.{flat_map}
use lib.ListN.{take}
use Rattle.float.specs.Bytes.{to_le_bytes}
use Rattle.radius_writing.proofs.write_floats.Given as goal

abbrev pub invariant-loop-i : goal.invariant-loop-i
invariant-loop-i l = take (4 * l.i) l.out ≡ flat_map to_le_bytes (take l.i l.radii)

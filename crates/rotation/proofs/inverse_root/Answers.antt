-- `rotation::inverse_root` reads the table at the number of trailing zeros, two to which is the dimension. Assumes nothing.
use Prim.Native.Nat.{◌≤◌}
use mathlib.Core.Path.{sym, ap, ◌∙◌}
use native.Mathlib.Omega.{arith}
use lib.Count.{count_trailing_zeros}
use Rattle.rotation.specs.Rotation.{inverse_root}
use Rattle.rotation.proofs.Accepted.{Power, power-steps, power-few}
use Rattle.rotation.proofs.Roots.{roots-at}
use Rattle.rotation.proofs.inverse_root.Goals.{Start}
use Rattle.rotation.proofs.inverse_root.Goals as goal

power : (c : goal.Start) → Power c.args.dim
power c = record { bit = c.requires.0; small = c.requires.1 }

few : (c : goal.Start) → count_trailing_zeros 64 c.args.dim ≤ 12
few c = power-few _ (power c)

pub overflow_cast-result : goal.overflow_cast-result
overflow_cast-result c = omega (arith, few (goal.at.overflow_cast-result c).Start)

pub offset_bounds-roots-dim : goal.offset_bounds-roots-dim
offset_bounds-roots-dim c = omega (arith, few (goal.at.offset_bounds-roots-dim c).Start)

pub bounds-roots-dim : goal.bounds-roots-dim
bounds-roots-dim c = omega (arith, few (goal.at.bounds-roots-dim c).Start)

pub returns : goal.returns
returns c = roots-at (count_trailing_zeros 64 c.args.dim) (omega (arith, few (goal.at.returns c).Start)) ∙ ap inverse_root (sym (power-steps _ (power (goal.at.returns c).Start)))

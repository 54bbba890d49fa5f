-- `rotation_stages::finish` is every stage that is left, in its order.
-- The loop's invariant says that the stages left, of what the values hold now, give the whole. Assumes nothing.
use Prim.Native.Nat.{◌-◌, ◌*◌}
use lib.Ieee.{binary32, add, sub}
use Rattle.float.specs.Constants.{pos_zero}
use Rattle.rounding.specs.Butterfly.{stages}
use Rattle.rotation_stages.proofs.Ordered.{Running}
use Rattle.rotation_stages.proofs.finish.Given as goal

abbrev pub invariant-loop-pair : goal.invariant-loop-pair
invariant-loop-pair l = Running l.step (l.count - 2 * l._pair) (stages (add binary32) (sub binary32) pos_zero l.count l.from l.initial.values) l.values

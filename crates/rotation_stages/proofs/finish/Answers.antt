-- `rotation_stages::finish` is every stage that is left, in its order: pair by pair, and one more where the count is odd. Assumes nothing.
use Prim.Native.Nat.{◌+◌, ◌-◌, ◌*◌}
use mathlib.Core.Path.{◌≡◌}
use native.Mathlib.Omega.{arith}
use Rattle.rotation_stages.proofs.Ordered.{steps-fours, steps-pairs, running-twice, running_more, running-all}
use Rattle.rotation_stages.proofs.finish.Goals as goal

pub doubles-requires : goal.doubles-requires
doubles-requires c = steps-fours _ _ _ c.loop-pair.invariant.steps (omega arith)

pub loop-pair-preserved : goal.loop-pair-preserved
loop-pair-preserved c =
    let left : c.args.count - 2 * (c.loop-pair._pair + 1) ≡ c.args.count - 2 * c.loop-pair._pair - 2 = omega arith in
    rw left (running-twice _ _ _ _ _ c.loop-pair.invariant (omega arith) c.doubles.ensures)

pub butterflies-requires : goal.butterflies-requires
butterflies-requires c = steps-pairs _ _ _ c.loop-pair.invariant.steps (omega arith)

pub returns-then-count-eq1 : goal.returns-then-count-eq1
returns-then-count-eq1 c = running-all _ _ _ _ (running_more _ _ _ _ _ c.loop-pair.invariant (omega arith) c.butterflies.ensures) (omega arith)

pub returns-else-count-eq1 : goal.returns-else-count-eq1
returns-else-count-eq1 c = running-all _ _ _ _ c.loop-pair.invariant (omega arith)

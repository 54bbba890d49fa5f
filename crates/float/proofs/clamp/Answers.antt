-- `float::clamp` meets its contract: the two tests in the definition's order. Assumes nothing.
use Rattle.std.proofs.Common.{◌≡◌, Bool, true, false, cond, sym, ap, ◌∙◌}
use lib.Ieee.{Float, lt}
use Rattle.float.specs.Rounding.{clamped}
use Rattle.float.proofs.clamp.Goals.{Joined-x-min, else-x-min, then-x-min}
use Rattle.float.proofs.clamp.Goals as goal

-- where the first test's arms meet
raised : (c : goal.Joined-x-min) → let a = c.args in c.if-x-min.y ≡ cond (lt a.x a.min) a.min a.x
raised c = elim c.if-x-min.branch [ then-x-min w ↦ simp w.if-x-min.true w.y-is | else-x-min w ↦ simp w.if-x-min.false w.y-is ]

clamped-by : (lo hi x y : Float) (b : Bool) → y ≡ cond (lt x lo) lo x → lt hi y ≡ b → cond b hi y ≡ clamped lo hi x
unfolding clamped
clamped-by lo hi x y b e t = ap (λ (z : Bool). cond z hi y) (sym t) ∙ ap (λ (z : Float). cond (lt hi z) hi z) e

pub returns-then-max-y : goal.returns-then-max-y
returns-then-max-y c = let a = c.args in clamped-by a.min a.max a.x c.if-x-min.y true (raised (goal.at.returns-then-max-y c).Joined-x-min) c.if-max-y.true

pub returns-else-max-y : goal.returns-else-max-y
returns-else-max-y c = let a = c.args in clamped-by a.min a.max a.x c.if-x-min.y false (raised (goal.at.returns-else-max-y c).Joined-x-min) c.if-max-y.false

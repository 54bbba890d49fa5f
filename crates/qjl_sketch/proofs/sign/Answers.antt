-- `qjl_sketch::sign` meets its contract: by the two cases of the comparison, which is false for a NaN. Assumes nothing.
use mathlib.Core.Path.{refl}
use lib.Ieee.{of_bits}
use Rattle.qjl.specs.Sketch.{sign_of_sum}
use Rattle.qjl_sketch.proofs.sign.Goals as goal

pub returns-then-sum : goal.returns-then-sum
unfolding sign_of_sum of_bits
returns-then-sum c = rw c.if-sum.true refl

pub returns-else-sum : goal.returns-else-sum
unfolding sign_of_sum of_bits
returns-else-sum c = rw c.if-sum.false refl

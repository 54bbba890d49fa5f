-- `float::shift` meets its contract: a field of 0 counts as 1. Assumes nothing.
use Rattle.std.proofs.Common.{arith}
use Rattle.float.specs.Inner.{shift_of}
use Rattle.float.proofs.shift.Goals as goal

pub returns-then-field-eq0 : goal.returns-then-field-eq0
unfolding shift_of
returns-then-field-eq0 c = omega arith

pub returns-else-field-eq0 : goal.returns-else-field-eq0
unfolding shift_of
returns-else-field-eq0 c = omega arith

-- `bitpack_signs_writing::bit` meets its contract: the test goes by the byte of the sign. Assumes nothing.
use mathlib.Core.Path.{refl}
use native.Mathlib.Omega.{arith}
use Rattle.bitpack_signs.proofs.Signs.{plus-is, plus-is-not}
use Rattle.bitpack_signs_writing.proofs.bit.Goals as goal

pub returns-then-sign-eq1 : goal.returns-then-sign-eq1
returns-then-sign-eq1 c = (rw (plus-is c.args.sign c.ranges.sign c.if-sign-eq1.true) refl, omega arith)

pub returns-else-sign-eq1 : goal.returns-else-sign-eq1
returns-else-sign-eq1 c = (rw (plus-is-not c.args.sign c.ranges.sign c.if-sign-eq1.false) refl, omega arith)

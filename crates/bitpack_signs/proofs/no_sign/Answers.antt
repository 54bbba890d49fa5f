-- `bitpack_signs::no_sign` meets its contract: both tests go by the byte of the sign. Assumes nothing.
use mathlib.Core.Path.{refl}
use Rattle.bitpack_signs.proofs.Signs.{plus-is, plus-is-not, minus-bits}
use Rattle.bitpack_signs.proofs.no_sign.Goals as goal

pub returns-then-sign-eq1 : goal.returns-then-sign-eq1
returns-then-sign-eq1 c = rw (plus-is c.args.sign c.ranges.sign c.if-sign-eq1.true) refl

pub returns : goal.returns
returns c = rw (plus-is-not c.args.sign c.ranges.sign c.if-sign-eq1.false, minus-bits c.args.sign c.ranges.sign) refl

-- `bitpack_signs::stray` meets its contract: both tests go by the byte of the sign. Assumes nothing.
use mathlib.Core.Path.{refl}
use borrow.Author.Tests.{eq-eqb, ne_eqb}
use Rattle.bitpack_signs.proofs.Signs.{plus-is, plus-is-not, minus-bits}
use Rattle.bitpack_signs.proofs.stray.Goals as goal

pub returns-then-sign-eq1 : goal.returns-then-sign-eq1
returns-then-sign-eq1 c = rw (plus-is c.args.sign c.ranges.sign c.if-sign-eq1.true) refl

pub returns-then-sign-eqminus1 : goal.returns-then-sign-eqminus1
returns-then-sign-eqminus1 c = rw (plus-is-not c.args.sign c.ranges.sign c.if-sign-eq1.false, ← minus-bits c.args.sign c.ranges.sign, eq-eqb _ _ c.if-sign-eqminus1.true) refl

pub returns-else-sign-eqminus1 : goal.returns-else-sign-eqminus1
returns-else-sign-eqminus1 c = rw (plus-is-not c.args.sign c.ranges.sign c.if-sign-eq1.false, ← minus-bits c.args.sign c.ranges.sign, ne_eqb _ _ c.if-sign-eqminus1.false) refl

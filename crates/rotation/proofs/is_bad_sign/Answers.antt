-- `rotation::is_bad_sign` compares a sign with -1.0 and with 1.0. Assumes nothing.
use mathlib.Core.Path.{sym, ap}
use mathlib.Core.Bool.{Bool, false, ◌&&◌}
use lib.IntN.{pos}
use lib.Ieee.{fin, ne, neg, of_bits}
use Rattle.rotation.proofs.is_bad_sign.Goals as goal

pub returns-then-sign : goal.returns-then-sign
unfolding ne of_bits neg
returns-then-sign c = sym (ap (λ (b : Bool). b && ne c.args.sign (fin false 1 (pos 0))) c.if-sign.true)

pub returns-else-sign : goal.returns-else-sign
unfolding ne of_bits neg
returns-else-sign c = sym (ap (λ (b : Bool). b && ne c.args.sign (fin false 1 (pos 0))) c.if-sign.false)

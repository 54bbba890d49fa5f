-- `float::significand` meets its contract. Assumes nothing.
use Rattle.std.proofs.Common.{sym}
use Rattle.float.proofs.Decode.{significand-low, significand-high}
use Rattle.float.proofs.significand.Goals as goal

pub returns-then-b-lt8388608 : goal.returns-then-b-lt8388608
returns-then-b-lt8388608 c = sym (significand-low c.args.b c.if-b-lt8388608.true)

pub returns-else-b-lt8388608 : goal.returns-else-b-lt8388608
returns-else-b-lt8388608 c = sym (significand-high c.args.b c.if-b-lt8388608.false)

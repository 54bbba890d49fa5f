-- `bitpack_writing::put_eight` meets its contract: one word, or two, hold the bytes of eight indices. Assumes nothing.
use native.Mathlib.Omega.{arith}
use Rattle.bitpack_writing.proofs.Groups.{eight-word, placed-eight, placed-eight-wide}
use Rattle.bitpack_writing.proofs.put_eight.Goals as goal

pub overflow_add-low : goal.overflow_add-low
overflow_add-low c = record { fits = eight-word c.args.width c.requires.1.0 c.args.low c.args.high c.requires.1.1.0 }

pub returns-then-width-gt8 : goal.returns-then-width-gt8
returns-then-width-gt8 c = placed-eight-wide c.args.width c.requires.1.0 c.args.low c.args.high c.requires.1.1.0 _ _ c.args.at (omega (arith, c.requires.1.1.1)) c.put_long.ensures _ c.put_long-then-width-gt8.ensures

pub returns-else-width-gt8 : goal.returns-else-width-gt8
returns-else-width-gt8 c = placed-eight c.args.width c.requires.1.0 c.args.low c.args.high c.requires.1.1.0 _ _ c.args.at (omega (arith, c.requires.1.1.1)) c.put_long.ensures c.if-width-gt8.false

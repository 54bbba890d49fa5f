-- `qjl_bits::add_byte` meets its contract: the second half of a byte follows the first. Assumes nothing.
use native.Mathlib.Omega.{arith}
use Rattle.qjl_bits.proofs.Bits.{bits_byte}
use Rattle.qjl_bits.proofs.add_byte.Goals as goal

pub returns : goal.returns
returns c next = bits_byte c.args.begun _ _ c.args.byte next c.args.projected.now c.args.at (omega arith) c.add_four-half.ensures c.add_four.ensures

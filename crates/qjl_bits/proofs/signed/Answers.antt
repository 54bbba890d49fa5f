-- `qjl_bits::signed` meets its contract: the two entries are the signs of the two bits. Assumes nothing.
use mathlib.Core.Path.{ap}
use lib.Ieee.{Float, binary32, mul}
use Rattle.qjl_bits.proofs.Bits.{sign-entry}
use Rattle.qjl_bits.proofs.signed.Goals as goal

pub returns : goal.returns
returns c = ap (λ (x : Float). mul binary32 x c.args.value) (sign-entry c.args.bit c.requires)

-- `polar_blocks::lowest` meets its contract: a mask takes the lowest bits. Assumes nothing.
use native.Mathlib.Nat.{mod-lt}
use native.Mathlib.Omega.{arith}
use lib.Pow.{pow_pos}
use Rattle.digits.proofs.Masks.{power-shifted, masked}
use Rattle.polar_blocks.proofs.lowest.Goals as goal

pub overflow_sub-mask : goal.overflow_sub-mask
overflow_sub-mask c = rw (power-shifted c.args.bits 64 (omega arith)) (pow_pos _)

pub returns : goal.returns
returns c = let e = masked c.args.word c.args.bits c.requires in (e, rw e (mod-lt c.args.word (pow_pos c.args.bits)))

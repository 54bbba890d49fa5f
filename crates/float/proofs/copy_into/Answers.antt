-- `float::copy_into` meets its contract: where the lengths are equal, the output is filled with the input's values. Assumes nothing.
use Rattle.std.proofs.Common.{eq-eqb, arith}
use lib.Ieee.{nan}
use lib.Seq.{ext_get_or}
use Rattle.float.proofs.copy_into.Goals as goal

pub returns : goal.returns
returns c = let same = c.if-input-output.false in
    simp (eq-eqb _ _ same) (ext_get_or nan _ c.args.input.now (omega (arith, c.loop-i.auto.output, same)) (λ k l. c.loop-i.invariant k (omega (arith, c.loop-i.auto.output, same))))

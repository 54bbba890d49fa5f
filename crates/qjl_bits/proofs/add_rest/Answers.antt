-- `qjl_bits::add_rest` meets its contract: the loop keeps the sum by the bits and the values that are left. Assumes nothing.
use Rattle.std.proofs.Common.{sym, ◌∙◌}
use Rattle.qjl_bits.proofs.Bits.{bits-more, bits_none}
use Rattle.qjl_bits.proofs.add_rest.Goals as goal

pub loop-value-preserved : goal.loop-value-preserved
loop-value-preserved c = c.loop-value.invariant ∙ bits-more _ _ _ _ _ c.loop-value-test.true c.signed-sum.ensures

pub returns : goal.returns
returns c = sym (c.loop-value.invariant ∙ bits_none _ _ _ _ c.loop-value-test.false)

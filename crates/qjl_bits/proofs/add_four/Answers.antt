-- `qjl_bits::add_four` meets its contract: four values are added, each by its bit. Assumes nothing.
use Rattle.qjl_bits.proofs.Bits.{bits-four}
use Rattle.qjl_bits.proofs.add_four.Goals as goal

pub returns : goal.returns
returns c next = bits-four c.args.begun _ _ _ _ c.args.bits next c.args.projected.now c.args.at c.requires c.signed.ensures c.signed-2.ensures c.signed-3.ensures c.signed-4.ensures

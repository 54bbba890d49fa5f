-- `packed_parts::indices_part` meets its contract: a cut at the places that were found. Assumes nothing.
use Rattle.packed_parts.proofs.Handed.{indices-payload, payload-handed, held_stands}
use Rattle.packed_parts.proofs.indices_part.Goals as goal

pub returns : goal.returns
returns c = held_stands (payload-handed (indices-payload c.args.bytes.now) c.locate-places.ensures (c.cut.ensures.held, c.cut.ensures.stands))

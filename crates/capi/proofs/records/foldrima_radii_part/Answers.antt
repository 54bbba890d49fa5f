-- `capi::records::foldrima_radii_part` meets its contract: the start and the length of the part that the library hands back. Assumes nothing.
use Rattle.packed_parts.proofs.Handed.{radii-payload, payload-told}
use Rattle.capi.proofs.records.foldrima_radii_part.Goals as goal

pub returns : goal.returns
returns c = let p = payload-told (radii-payload c.args.bytes.now) c.locate-places.ensures c.cut.ensures.held in
    record { stands = p.0; long = p.1.0; within = p.1.1.0; handed = p.1.1.1 }

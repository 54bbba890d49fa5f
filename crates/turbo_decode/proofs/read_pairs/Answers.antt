-- `turbo_decode::read_pairs` meets its contract: the parts that are cut are the payloads of the record. Assumes nothing.
use mathlib.Core.Path.{◌∙◌}
use Rattle.packed_parts.proofs.Handed.{radii-cut, indices-cut}
use Rattle.turbo_decode.proofs.Answers.{paired-values}
use Rattle.turbo_decode.proofs.read_pairs.Goals as goal

pub returns : goal.returns
returns c = let bytes = c.args.bytes.now in
    c.payload_pairs.ensures.left
    ∙ paired-values c.args.directions.now c.args.values.now bytes c.args.header _ _ c.requires (c.cut-radii.ensures.held ∙ radii-cut bytes c.requires.read) (c.cut-indices.ensures.held ∙ indices-cut bytes c.requires.read)

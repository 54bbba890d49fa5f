-- `turbo_decode::decode` meets its contract: what is rotated back are the pairs that were read. Assumes nothing.
use mathlib.Core.Path.{◌∙◌}
use lib.ListN.{length}
use Rattle.turbo_decode.proofs.Answers.{values-back}
use Rattle.turbo_decode.proofs.decode.Goals as goal

pub returns : goal.returns
returns c = let pairs = c.read_pairs in
    c.rotate_back_within.ensures.left
    ∙ values-back c.args.setup c.args.rotation.now _ _ (length c.args.out.now) c.requires.turnable pairs.auto.values pairs.ensures

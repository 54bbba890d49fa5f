-- `rotation::scale_by` multiplies each value by the factor, in place: at the end all are passed. Assumes nothing.
use native.Mathlib.Omega.{arith}
use Rattle.std.proofs.lemmas.List.{length-map, get_or-map}
use lib.Ieee.{Float, nan, binary32, mul}
use Rattle.rotation.specs.Rotation.{scaled}
use Rattle.lists.proofs.Loops.{filled-all}
use Rattle.rotation.proofs.scale_by.Goals as goal

pub returns : goal.returns
unfolding scaled
returns c =
    let times : Float → Float = λ x. mul binary32 x c.args.factor in
    let xs = c.args.values.now in
    filled-all nan _ _ _ _ _ (length-map xs times) (λ j l. get_or-map times xs j nan nan l) (omega arith) c.loop-value.invariant

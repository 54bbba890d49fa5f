-- `rotation::flip` multiplies each value by its sign, in place: at the end all are passed. Assumes nothing.
use native.Mathlib.Omega.{arith}
use lib.Ieee.{nan}
use Rattle.lists.proofs.Loops.{filled-all}
use Rattle.rounding.proofs.Lists.{length-products, get_or-products}
use Rattle.rotation.proofs.flip.Goals as goal

pub returns : goal.returns
returns c =
    let xs = c.args.values.now in
    let signs = c.args.signs.now in
    filled-all nan _ _ _ _ _ (length-products xs signs c.requires) (λ j l. get_or-products xs signs nan j l (omega arith)) (omega arith) c.loop-i.invariant

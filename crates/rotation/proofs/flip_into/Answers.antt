-- `rotation::flip_into` leaves each value times its sign in the output: at the end all are written. Assumes nothing.
use mathlib.Core.Path.{sym, ◌∙◌}
use native.Mathlib.Omega.{arith}
use lib.Ieee.{nan}
use Rattle.lists.proofs.Loops.{filled-all}
use Rattle.rounding.proofs.Lists.{length-products, get_or-products}
use Rattle.rotation.proofs.flip_into.Goals as goal

pub returns : goal.returns
returns c =
    let xs = c.args.input.now in
    let signs = c.args.signs.now in
    filled-all nan _ _ _ _ _ (length-products xs signs c.requires.0 ∙ sym c.requires.1) (λ j l. get_or-products xs signs nan j (omega arith) (omega arith)) (omega arith) c.loop-i.invariant

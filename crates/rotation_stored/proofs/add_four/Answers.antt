-- `rotation_stored::add_four` takes four columns more: the loop fills the sums anew, each with its four terms. Assumes nothing.
use Prim.Native.Nat.{◌*◌}
use mathlib.Core.Path.{ap}
use native.Mathlib.Omega.{arith}
use lib.ListN.{length}
use lib.Ieee.{nan}
use Rattle.lists.proofs.Loops.{filled_more, filled-done}
use Rattle.rotation_stored.proofs.Columns.{four_added, four-within, taken-four}
use Rattle.rotation_stored.proofs.add_four.Goals as goal

pub bounds-matrix-third : goal.bounds-matrix-third
bounds-matrix-third c = omega (arith, four-within _ _ c.requires.1 c.requires.0)

pub bounds-matrix-fourth : goal.bounds-matrix-fourth
bounds-matrix-fourth c = omega (arith, four-within _ _ c.requires.1 c.requires.0)

pub loop-i-preserved : goal.loop-i-preserved
loop-i-preserved c =
    let a = c.args in
    let n = length a.sums.now in
    let old = ap (four_added a.matrix.now a.input.now n (a.column * n) a.column c.loop-i.i) (c.loop-i.invariant.left c.loop-i.i (omega arith)) in
    filled_more nan _ 0 _ _ _ _ old (omega arith) (omega arith) c.loop-i.invariant

pub returns : goal.returns
returns c = taken-four c.args.matrix.now c.args.input.now _ _ c.args.column c.requires.0 c.requires.1 (filled-done nan _ 0 _ _ _ (omega arith) (omega arith) c.loop-i.invariant)

-- `bitpack_signs::all_signs` meets its contract, by the laws of `Sweep`. Assumes nothing.
use Rattle.bitpack.specs.Signs.{bad_sketch_sign}
use Rattle.error.proofs.Sweep.{Swept}
use Rattle.bitpack_signs.proofs.all_signs.Given as goal

abbrev pub invariant-loop-sign : goal.invariant-loop-sign
invariant-loop-sign l = Swept bad_sketch_sign l.signs l.sign-index l.ok

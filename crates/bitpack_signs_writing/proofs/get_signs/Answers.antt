-- `bitpack_signs_writing::get_signs` meets its contract: four bits are the run at their place, by Horner's rule. Assumes nothing.
use Prim.Native.Nat.{ℕ, ◌+◌, ◌≤◌}
use mathlib.Core.Path.{◌∙◌}
use mathlib.Core.List.{map}
use native.Mathlib.Omega.{arith}
use lib.ListN.{length, length-map}
use Rattle.digits.specs.Digits.{number}
use Rattle.bitpack.specs.Signs.{bit_of_sign}
use Rattle.lists.proofs.Stores.{run-four}
use Rattle.bitpack_signs.proofs.Signs.{bit-read}
use Rattle.bitpack_signs_writing.proofs.get_signs.Goals as goal

pub returns : goal.returns
unfolding number
returns c = let bits = map bit_of_sign c.args.signs.now in
    let inside : c.args.at + 4 ≤ length bits = rw (length-map c.args.signs.now bit_of_sign) c.requires in
    (rw (run-four {A = ℕ} bits c.args.at 0 inside, ← (c.bit-a.ensures.0 ∙ bit-read c.args.signs.now c.args.at c.bit-arg-1.given), ← (c.bit-b.ensures.0 ∙ bit-read c.args.signs.now (c.args.at + 1) c.bit-arg-2-1.given), ← (c.bit-c.ensures.0 ∙ bit-read c.args.signs.now (c.args.at + 2) c.bit-arg-3-1.given), ← (c.bit-d.ensures.0 ∙ bit-read c.args.signs.now (c.args.at + 3) c.bit-arg-4-1.given)) (omega arith), omega (arith, c.bit-a.ensures.1, c.bit-b.ensures.1, c.bit-c.ensures.1, c.bit-d.ensures.1))

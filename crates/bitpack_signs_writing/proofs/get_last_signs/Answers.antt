-- `bitpack_signs_writing::get_last_signs` meets its contract: the loop goes down and keeps `LastBits`. Assumes nothing.
use Prim.Native.Nat.{◌-◌, ◌<◌}
use mathlib.Core.Path.{◌≡◌, ◌∙◌}
use mathlib.Core.List.{map}
use native.Mathlib.Omega.{arith}
use lib.ListN.{length-map}
use Rattle.bitpack.specs.Signs.{bit_of_sign}
use Rattle.bitpack_signs.proofs.Signs.{bit-read}
use Rattle.bitpack_signs_writing.proofs.SignPacking.{last-start, last_turn, last-small}
use Rattle.bitpack_signs_writing.proofs.get_last_signs.Goals.{In-loop-i}
use Rattle.bitpack_signs_writing.proofs.get_last_signs.Goals as goal

pub loop-i-init : goal.loop-i-init
loop-i-init c = (c.requires.0, rw (← length-map c.args.signs.now bit_of_sign) (last-start (map bit_of_sign c.args.signs.now)))

-- there is room for one bit more
small : (c : goal.In-loop-i) → c.loop-i.bits < 128
small c = last-small _ _ _ (omega (arith, length-map c.args.signs.now bit_of_sign)) c.loop-i.invariant.1

pub overflow_mul-bits : goal.overflow_mul-bits
overflow_mul-bits c = omega (arith, small (goal.at.overflow_mul-bits c).In-loop-i)

pub overflow_add-bits : goal.overflow_add-bits
overflow_add-bits c = omega (arith, c.bit.ensures.1, small (goal.at.overflow_add-bits c).In-loop-i)

pub loop-i-preserved : goal.loop-i-preserved
loop-i-preserved c = let i = c.loop-i.i in
    let signs = c.args.signs.now in
    (omega arith, last_turn (map bit_of_sign signs) i _ _ (omega arith) (omega (arith, length-map signs bit_of_sign)) c.loop-i.invariant.1 (c.bit.ensures.0 ∙ bit-read signs (i - 1) (omega arith)) c.bit.ensures.1)

pub returns : goal.returns
returns c = let here : c.loop-i.i ≡ c.args.from = omega arith in
    rw here at c.loop-i.invariant.1.is

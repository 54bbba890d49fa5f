-- `bitpack_signs_writing::pack_sign_bytes` meets its contract: the loop keeps `SignsPacked`; a last byte is written where signs are left. Assumes nothing.
use Prim.Native.Nat.{◌/◌}
use mathlib.Core.Path.{◌≡◌, refl}
use native.Mathlib.Omega.{arith}
use lib.ListN.{length, length-map}
use Rattle.bitpack.specs.Signs.{bit_of_sign}
use Rattle.bitpack_signs_writing.proofs.SignPacking.{signs-turn, signs-last, signs_none}
use Rattle.bitpack_signs_writing.proofs.pack_sign_bytes.Goals as goal

pub loop-k-preserved : goal.loop-k-preserved
loop-k-preserved c = signs-turn _ _ _ (length-map c.args.signs.now bit_of_sign) refl _ _ c.loop-k.invariant c.loop-k-test.true _ _ c.get_signs.ensures.0 c.get_signs-in-loop-k.ensures.0 c.get_signs.ensures.1 c.get_signs-in-loop-k.ensures.1

pub returns-then-full-out : goal.returns-then-full-out
returns-then-full-out c = let sized = length-map c.args.signs.now bit_of_sign in
    let all : c.loop-k.k ≡ length c.args.signs.now / 8 = omega arith in
    rw c.requires (signs-last _ _ _ sized refl _ _ (rw all at c.loop-k.invariant) (omega arith) _ c.if-full-out.true c.get_last_signs.ensures c.get_last_signs.type_inv)

pub returns-else-full-out : goal.returns-else-full-out
returns-else-full-out c = rw c.requires (signs_none _ _ _ (length-map c.args.signs.now bit_of_sign) refl _ _ c.loop-k.invariant (omega arith) (omega arith))

-- `bitpack_signs_reading::unpack_sign_bytes` meets its contract: the loop keeps `SignsUnpacked`; a last byte is read where signs are left. Assumes nothing.
use Prim.Native.Nat.{◌/◌}
use mathlib.Core.Path.{◌≡◌}
use native.Mathlib.Omega.{arith}
use lib.ListN.{length}
use Rattle.bitpack_signs.proofs.SignUnpacking.{unsigns-turn, unsigns-last, unsigns-none}
use Rattle.bitpack_signs_reading.proofs.unpack_sign_bytes.Goals as goal

pub loop-k-preserved : goal.loop-k-preserved
loop-k-preserved c = unsigns-turn _ _ c.requires _ _ c.loop-k.invariant c.loop-k-test.true _ _ (c.type_inv.packed c.loop-k.k).fits c.put_signs.ensures c.put_signs-in-loop-k.ensures

pub returns-then-full-out : goal.returns-then-full-out
returns-then-full-out c = let all : c.loop-k.k ≡ length c.args.out.now / 8 = omega arith in
    unsigns-last _ _ c.requires _ _ (rw all at c.loop-k.invariant) (omega arith) _ (omega arith) c.put_last_signs.ensures

pub returns-else-full-out : goal.returns-else-full-out
returns-else-full-out c = unsigns-none _ _ c.requires _ _ c.loop-k.invariant (omega arith) (omega arith)

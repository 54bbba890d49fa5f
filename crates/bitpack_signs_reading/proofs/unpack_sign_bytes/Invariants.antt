-- `bitpack_signs_reading::unpack_sign_bytes` meets its contract: the loop keeps `SignsUnpacked`; a last byte is read where signs are left. Assumes nothing.
use lib.ListN.{length}
use Rattle.bitpack_signs.proofs.SignUnpacking.{SignsUnpacked}
use Rattle.bitpack_signs_reading.proofs.unpack_sign_bytes.Given as goal

abbrev pub invariant-loop-k : goal.invariant-loop-k
invariant-loop-k l = SignsUnpacked l.packed (length l.initial.out) l.out l.k

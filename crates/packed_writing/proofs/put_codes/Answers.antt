-- `packed_writing::put_codes` meets its contract: two parts of the memory, one behind the other. Assumes nothing.
use Prim.Native.Nat.{ℕ}
use mathlib.Core.Path.{ap, ◌∙◌}
use mathlib.Core.List.{List, ◌++◌}
use native.Mathlib.Omega.{arith}
use lib.ListN.{length}
use Rattle.bitpack.specs.Padding.{bytes_for}
use Rattle.bitpack.proofs.Lengths.{div_ceil-bytes_for}
use Rattle.bitpack.specs.Packing.{index_bytes}
use Rattle.packed.proofs.Headers.{product-most}
use Rattle.lists.proofs.Stores.{lent_back, front-again, store_both}
use Rattle.packed_writing.proofs.Writing.{indices-pass, signs-pass}
use Rattle.packed_writing.proofs.put_codes.Goals as goal

pub overflow_mul-indices : goal.overflow_mul-indices
overflow_mul-indices c = let s = c.requires in let p = product-most (length c.args.indices.now) c.args.bits 2048 16 s.codes.indices_most s.codes.most in omega (arith, p)

pub put_signs-requires : goal.put_signs-requires
put_signs-requires c = let s = c.requires in signs-pass c.args.signs.now _ (lent_back c.args.out.now c.div_ceil-codes.result (bytes_for (length c.args.signs.now)) (omega (arith, s.exact))) s.signs_good

pub put_indices-requires : goal.put_indices-requires
put_indices-requires c = let s = c.requires in
    let p = product-most (length c.args.indices.now) c.args.bits 2048 16 s.codes.indices_most s.codes.most in
    indices-pass c.args.indices.now c.args.bits _ s.codes.least s.codes.most (omega (arith, p)) (front-again c.args.out.now _ c.div_ceil-codes.result (omega (arith, s.exact)) ∙ c.div_ceil-codes.ensures ∙ div_ceil-bytes_for _) s.indices_good

pub returns : goal.returns
returns c = let s = c.requires in
    store_both c.args.out.now c.put_indices.new.out c.put_signs.new.out c.div_ceil-codes.result (omega (arith, s.exact))
    ∙ ap (λ (l : List ℕ). l ++ c.put_signs.new.out) c.put_indices.ensures
    ∙ ap (λ (l : List ℕ). index_bytes c.args.bits c.args.indices.now ++ l) c.put_signs.ensures

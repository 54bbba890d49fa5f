-- `bitpack::packed_len` meets its contract: each return is the first check that offends, or the length. Assumes nothing.
use mathlib.Core.Logic.{⊎_elim}
use native.Mathlib.Omega.{arith}
use borrow.Author.Tests.{lt-ltb, le-ltb}
use Rattle.bitpack.specs.Packing.{packed_len_of}
use Rattle.bitpack.proofs.Lengths.{product-fits, product-exceeds, div_ceil-bytes_for}
use Rattle.bitpack.proofs.packed_len.Goals as goal

pub returns-then-bits-lt1 : goal.returns-then-bits-lt1
unfolding packed_len_of
returns-then-bits-lt1 c = ⊎_elim (λ w. simp (lt-ltb c.args.bits 1 w)) (λ w. simp (le-ltb c.args.bits 1 w.0, lt-ltb 16 c.args.bits w.1)) c.then-bits-lt1.either

pub returns-then-width-count : goal.returns-then-width-count
unfolding packed_len_of
returns-then-width-count c = let a = c.args in
    simp (le-ltb _ _ c.if-bits-lt1.false, le-ltb _ _ c.if-bits-gt16.false, lt-ltb _ _ (product-exceeds a.count a.bits c.if-bits-lt1.false c.if-width-count.true))

pub overflow_mul-total : goal.overflow_mul-total
overflow_mul-total c = let a = c.args in
    omega (arith, product-fits a.count a.bits c.if-bits-lt1.false c.if-width-count.false)

pub returns : goal.returns
unfolding packed_len_of
returns c = let a = c.args in
    simp (le-ltb _ _ c.if-bits-lt1.false, le-ltb _ _ c.if-bits-gt16.false, le-ltb _ _ (product-fits a.count a.bits c.if-bits-lt1.false c.if-width-count.false), c.div_ceil.ensures, div_ceil-bytes_for)

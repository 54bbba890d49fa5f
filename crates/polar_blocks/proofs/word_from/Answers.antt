-- `polar_blocks::word_from` meets its contract: the word begins at the byte of the first bit, and the indices end within it. Assumes nothing.
use native.Mathlib.Nat.{mul-le-mul}
use native.Mathlib.Omega.{arith}
use Rattle.digits.proofs.Laws.{Below}
use Rattle.polar_blocks.proofs.Indices.{word-four}
use Rattle.polar_blocks.proofs.word_from.Goals as goal

pub overflow_mul-bit : goal.overflow_mul-bit
overflow_mul-bit c = record { fits = omega (arith, mul-le-mul c.requires.1 c.requires.0) }

pub returns : goal.returns
returns c = let below : Below 256 c.args.indices.now = record { at = λ j h. (c.type_inv.indices j).fits } in
    word-four c.args.bits c.args.indices.now c.args.i _ _ below c.requires.0 c.word_at.ensures

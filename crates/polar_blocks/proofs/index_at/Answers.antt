-- `polar_blocks::index_at` meets its contract: the index begins in the first of four bytes and ends in the third at the latest. Assumes nothing.
use Prim.Native.Nat.{ℕ, ◌*◌, ◌/◌, ◌%◌, ◌^◌}
use mathlib.Core.Path.{ap, ◌∙◌}
use native.Mathlib.Nat.{mul-le-mul}
use native.Mathlib.Omega.{arith}
use Rattle.digits.proofs.Laws.{Below}
use Rattle.polar_blocks.proofs.Indices.{four-index}
use Rattle.polar_blocks.proofs.index_at.Goals as goal

pub overflow_mul-bit : goal.overflow_mul-bit
overflow_mul-bit c = record { fits = omega (arith, mul-le-mul c.requires.1 c.requires.0) }

pub returns : goal.returns
returns c = let place = c.args.i * c.args.bits in
    let below : Below 256 c.args.indices.now = record { at = λ j h. (c.type_inv.indices j).fits } in (
      c.lowest.ensures.0
          ∙ ap (λ (n : ℕ). n / 2 ^ (place % 8) % 2 ^ c.args.bits) c.four_from.ensures
          ∙ four-index c.args.bits c.args.indices.now c.args.i below c.requires.0,
      c.lowest.ensures.1,
    )

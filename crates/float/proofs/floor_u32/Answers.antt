-- `float::floor_u32` meets its contract, by the laws of `Floor`. Assumes nothing.
use Rattle.std.proofs.Common.{ℕ, ◌^◌, ◌<◌, T, sym, ◌∙◌, subst}
use lib.Ieee.{of_bits, neg}
use lib.Ieee.Casts.{to_unsigned-lt}
use Rattle.float.proofs.Floor.{below_wider, floor-between, floor-above, floor-below}
use Rattle.float.proofs.floor_u32.Goals as goal

pub truncating_f32_to_u64-requires : goal.truncating_f32_to_u64-requires
unfolding of_bits neg
truncating_f32_to_u64-requires c = record { lower_bound = subst T (sym c.if-x.true) tt; upper_bound = below_wider c.args.x c.if-x-2.true }

pub returns-then-x-2 : goal.returns-then-x-2
unfolding of_bits
returns-then-x-2 c = c.truncating_f32_to_u64.ensures ∙ floor-between c.args.x c.if-x-2.true

pub overflow_cast-result : goal.overflow_cast-result
unfolding of_bits
overflow_cast-result c = record { fits = subst (λ (n : ℕ). n < 2 ^ 32) (sym (c.truncating_f32_to_u64.ensures ∙ floor-between c.args.x c.if-x-2.true)) (to_unsigned-lt 32 c.args.x) }

pub returns-then-x : goal.returns-then-x
unfolding of_bits neg
returns-then-x c = floor-above c.args.x c.if-x.true c.if-x-2.false

pub returns : goal.returns
unfolding of_bits neg
returns c = floor-below c.args.x c.if-x.false

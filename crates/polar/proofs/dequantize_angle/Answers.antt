-- `polar::dequantize_angle` meets its contract: each return is the first check that offends, or the angle. Assumes nothing.
use Rattle.std.proofs.Common.{◌≤◌, ⊎_elim, arith, le-ltb, lt-ltb, le-leb}
use borrow.Author.Tests.{lt-leb}
use lib.Ieee.{of_bits}
use Rattle.polar.specs.Angle.{dequantize_angle_of, radians, twice_pi}
use Rattle.float.specs.Constants.{pi}
use Rattle.float.proofs.Levels.{levels-most, levels-shifted, levels-in_float}
use Rattle.polar.proofs.dequantize_angle.Goals.{Else-bits-gt16}
use Rattle.polar.proofs.dequantize_angle.Goals as goal

pub returns-then-bits-lt1 : goal.returns-then-bits-lt1
unfolding dequantize_angle_of
returns-then-bits-lt1 c = ⊎_elim (λ w. simp (lt-ltb c.args.bits 1 w)) (λ w. simp (le-ltb c.args.bits 1 w.0, lt-ltb 16 c.args.bits w.1)) c.then-bits-lt1.either

-- past the check of the bits
narrow : (c : goal.Else-bits-gt16) → c.args.bits ≤ 16
narrow c = c.if-bits-gt16.false

pub overflow_shl-levels : goal.overflow_shl-levels
overflow_shl-levels c = omega (arith, narrow (goal.at.overflow_shl-levels c).Else-bits-gt16)

pub returns-then-levels-index : goal.returns-then-levels-index
unfolding dequantize_angle_of
returns-then-levels-index c = simp (
  le-ltb _ _ c.if-bits-lt1.false,
  le-ltb _ _ c.if-bits-gt16.false,
  ← levels-shifted c.args.bits (narrow (goal.at.returns-then-levels-index c).Else-bits-gt16),
  le-leb _ _ c.if-levels-index.true,
)

pub int_to_float-count : goal.int_to_float-count
int_to_float-count c = let bits = c.args.bits in
    let most = narrow (goal.at.int_to_float-count c).Else-bits-gt16 in
    rw (levels-shifted bits most) (levels-in_float _ (levels-most bits most))

pub returns : goal.returns
unfolding dequantize_angle_of radians twice_pi pi of_bits
returns c = let bits = c.args.bits in
    let shifted = levels-shifted bits (narrow (goal.at.returns c).Else-bits-gt16) in
    simp (
      shifted,
      le-ltb _ _ c.if-bits-lt1.false,
      le-ltb _ _ c.if-bits-gt16.false,
      lt-leb _ _ (rw shifted at c.if-levels-index.false),
    )

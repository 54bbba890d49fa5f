-- `polar::direction_at` meets its contract: an index is below 65,536, so twice it fits, and where it is missing it counts as 0. Assumes nothing.
use Rattle.std.proofs.Common.{ℕ, ◌*◌, sym, refl, ap, arith}
use lib.ListN.{get_or-eq_default}
use Rattle.polar.proofs.direction_at.Goals as goal

pub overflow_cast-result : goal.overflow_cast-result
overflow_cast-result c = omega (arith, c.type_inv.indices c.args.i)

pub overflow_mul-result : goal.overflow_mul-result
overflow_mul-result c = omega (arith, c.type_inv.indices c.args.i)

pub returns-then-i-indices : goal.returns-then-i-indices
returns-then-i-indices c = (refl, omega (arith, c.type_inv.indices c.args.i))

pub returns-else-i-indices : goal.returns-else-i-indices
returns-else-i-indices c = (ap (λ (n : ℕ). 2 * n) (sym (get_or-eq_default c.args.indices.now 0 c.if-i-indices.false)), omega arith)

-- `finite_sums::first_non_finite` meets its contract: where the sum is finite, so is every value, and none is found. Assumes nothing.
use Rattle.error.specs.Checks.{bad_value}
use Rattle.error.proofs.Sweep.{clear-found}
use Rattle.finite_sums.proofs.first_non_finite.Goals as goal

pub returns-then-is_sum_finite : goal.returns-then-is_sum_finite
returns-then-is_sum_finite c = clear-found bad_value _ (c.is_sum_finite.ensures c.if-is_sum_finite.true)

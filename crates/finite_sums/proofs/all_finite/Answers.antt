-- `finite_sums::all_finite` meets its contract: a finite sum has finite terms only, and else each value is tested. Assumes nothing.
use mathlib.Core.Path.{sym}
use Rattle.finite_sums.proofs.all_finite.Goals as goal

pub returns-then-is_sum_finite : goal.returns-then-is_sum_finite
returns-then-is_sum_finite c = sym (c.is_sum_finite.ensures c.if-is_sum_finite.true)

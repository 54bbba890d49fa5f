-- `setup_tables::direction_entries` meets its contract, by the laws of `Lengths`. Assumes nothing.
use Prim.Native.Nat.{ℕ, ◌*◌}
use mathlib.Core.Path.{ap}
use native.Mathlib.Omega.{arith}
use Rattle.setup_tables.proofs.Lengths.{entries_fit, entries-shift}
use Rattle.setup_tables.proofs.direction_entries.Goals as goal

pub overflow_mul-result : goal.overflow_mul-result
overflow_mul-result c = let l = entries_fit c.args.bits c.requires in let e = entries-shift c.args.bits c.requires in omega (arith, l, e)

pub returns : goal.returns
returns c = ap (λ (n : ℕ). 2 * n) (entries-shift c.args.bits c.requires)

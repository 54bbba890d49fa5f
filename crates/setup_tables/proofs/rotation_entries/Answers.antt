-- `setup_tables::rotation_entries` meets its contract, rotation by rotation: at most 4,096 times 4,096 entries. Assumes nothing.
use native.Mathlib.Omega.{arith}
use Rattle.setup_tables.proofs.Lengths.{matrix-fits}
use Rattle.setup_tables.proofs.rotation_entries.Goals as goal

pub overflow_mul-result : goal.overflow_mul-result
overflow_mul-result c = record { fits = omega (arith, matrix-fits c.args.setup.dim c.args.setup.dim c.requires c.requires) }

pub returns-in-Stored : goal.returns-in-Stored
returns-in-Stored c = simp c.in-Stored.is

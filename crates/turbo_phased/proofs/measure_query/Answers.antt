-- `turbo_phased::measure_query` meets its contract: either size of the arrays has room for the query. Assumes nothing.
use native.Mathlib.Omega.{arith}
use Rattle.setup.proofs.Scalars.{scalars-usable}
use Rattle.turbo_phased.proofs.measure_query.Goals as goal

pub measure_in-requires : goal.measure_in-requires
measure_in-requires c = let usable = scalars-usable c.args.setup c.requires in
    (c.requires, (usable.most, (usable.most_projections, omega arith)))

pub measure_in-requires-2 : goal.measure_in-requires-2
measure_in-requires-2 c = (c.requires, (c.if-dim-gt256.false, (omega (arith, c.if-rows-gt256.false, c.counted_projections-rows.ensures), omega arith)))

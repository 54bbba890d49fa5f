-- `turbo_query::prepare` meets its contract: either size of the arrays has room for the query. Assumes nothing.
use native.Mathlib.Omega.{arith}
use Rattle.setup.proofs.Scalars.{scalars-usable}
use Rattle.turbo_query.proofs.prepare.Goals as goal

pub prepare_in-requires : goal.prepare_in-requires
prepare_in-requires c = let usable = scalars-usable c.args.setup c.requires in
    (usable.most, (usable.most_projections, omega arith))

pub prepare_in-requires-2 : goal.prepare_in-requires-2
prepare_in-requires-2 c = (c.if-dim-gt256.false, (omega (arith, c.if-rows-gt256.false, c.counted_projections-rows.ensures), omega arith))

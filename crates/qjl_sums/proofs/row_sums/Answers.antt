-- `qjl_sums::row_sums` meets its contract: either way the sums are the projections. Assumes nothing.
use native.Mathlib.Omega.{arith}
use Rattle.qjl_sums.proofs.Rows.{rows_fit}
use Rattle.qjl_sums.proofs.row_sums.Goals as goal

pub eights-requires : goal.eights-requires
eights-requires c = (omega arith, rows_fit _ _ _ (omega arith) c.if-matrix-rows.false)

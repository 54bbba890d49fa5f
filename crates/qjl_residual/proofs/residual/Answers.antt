-- `qjl_residual::residual` meets its contract: it is the product of what its two callees ensure. Assumes nothing.
use Rattle.qjl_residual.proofs.SignSums.{residual-product}
use Rattle.qjl_residual.proofs.residual.Goals as goal

pub returns : goal.returns
returns c = residual-product _ _ _ _ c.scale.ensures c.sign_sum.ensures

-- `qjl_residual::scale` meets its contract: the pattern is that of root(PI / 2). Assumes nothing.
use mathlib.Core.Path.{ap}
use lib.IntN.{pos}
use lib.Ieee.{Float, binary32, div, mul, of_int, nan_bits}
use Rattle.qjl_residual.specs.Residual.{scale_of}
use Rattle.qjl_residual.proofs.SignSums.{root_pattern_lem}
use Rattle.qjl_residual.proofs.scale.Goals as goal

pub float_from_bits-root : goal.float_from_bits-root
unfolding nan_bits
float_from_bits-root c = tt

pub returns : goal.returns
unfolding scale_of
returns c = ap (λ (r : Float). div binary32 (mul binary32 r c.args.norm) (of_int binary32 (pos c.args.projections))) root_pattern_lem

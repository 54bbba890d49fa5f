-- `radius_writing::all_kept` meets its contract: a radius between the bounds passes. Assumes nothing.
use mathlib.Core.Path.{ap}
use mathlib.Core.Bool.{not}
use native.Mathlib.Omega.{arith}
use lib.Ieee.{nan_bits, of_bits}
use Rattle.error.proofs.Places.{each_none}
use Rattle.float.specs.Constants.{pos_zero}
use Rattle.radius.proofs.Passes.{between-good}
use Rattle.radius_writing.specs.Inner.{bad_kept}
use Rattle.radius_writing.proofs.all_kept.Goals as goal

pub float_from_bits-t-15 : goal.float_from_bits-t-15
unfolding nan_bits
float_from_bits-t-15 c = tt

pub returns-then-above : goal.returns-then-above
unfolding of_bits
returns-then-above c = λ below. let so_far = c.loop-r.invariant in
    ap not (each_none (bad_kept c.args.range) _ pos_zero (λ k l. rw (← c.span_of-span.ensures) (between-good _ (so_far.above c.if-above.true k (omega arith)) (so_far.below below k (omega arith)))))

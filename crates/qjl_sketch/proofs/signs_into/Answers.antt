-- `qjl_sketch::signs_into` meets its contract: the loop keeps that the entries below i hold their signs. Assumes nothing.
use Rattle.std.proofs.Common.{map, sym, arith}
use lib.IntN.{pos}
use lib.ListN.{length-map}
use lib.Ieee.{nan}
use Rattle.lists.proofs.Chunks.{map_at}
use Rattle.lists.proofs.Loops.{filled-all}
use Rattle.qjl.specs.Sketch.{sign_of_sum}
use Rattle.qjl_sketch.proofs.signs_into.Goals as goal

pub returns : goal.returns
returns c = let values = c.args.values.now in
    let long = c.requires in
    filled-all (pos 0) _ _ _ _ (map sign_of_sum values) (simp length-map (sym long)) (λ j l. map_at sign_of_sum values j nan (pos 0) (omega (arith, long))) (omega arith) c.loop-i.invariant

-- `qjl_sketch::signs_into` meets its contract: the loop keeps that the entries below i hold their signs. Assumes nothing.
use lib.IntN.{pos}
use lib.ListN.{get_or}
use lib.Ieee.{nan}
use Rattle.lists.specs.Inner.{Filled}
use Rattle.qjl.specs.Sketch.{sign_of_sum}
use Rattle.qjl_sketch.proofs.signs_into.Given as goal

abbrev pub invariant-loop-i : goal.invariant-loop-i
invariant-loop-i l = Filled (pos 0) (λ j. sign_of_sum (get_or l.values j nan)) 0 l.i l.initial.out l.out

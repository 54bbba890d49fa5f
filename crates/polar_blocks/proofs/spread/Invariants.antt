-- `polar_blocks::spread` meets its contract, by the laws of `Spreading`. Assumes nothing.
use Rattle.polar_blocks.proofs.Spreading.{Spread}
use Rattle.polar_blocks.proofs.spread.Given as goal

abbrev pub invariant-loop-i : goal.invariant-loop-i
invariant-loop-i l = Spread l.directions l.indices l.bits l.pairs l.initial.out l.i l.out

-- `rotation_stages::block` does the butterflies of one block.
-- The loop's invariant, `Partly`, says what each entry holds when so many pairs are through. Assumes nothing.
use Rattle.rotation_stages.specs.Inner.{Partly}
use Rattle.rotation_stages.proofs.block.Given as goal

abbrev pub invariant-loop-offset : goal.invariant-loop-offset
invariant-loop-offset l = Partly l.h l.start l.offset l.initial.values l.values

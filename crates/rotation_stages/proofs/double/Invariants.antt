-- `rotation_stages::double` does two stages of one block.
-- The loop's invariant says that the fours passed are through, and that no other entry is touched. Assumes nothing.
use Rattle.rotation_stages.specs.Inner.{FoursDone}
use Rattle.rotation_stages.proofs.double.Given as goal

abbrev pub invariant-loop-offset : goal.invariant-loop-offset
invariant-loop-offset l = FoursDone l.h l.start l.offset l.initial.values l.values

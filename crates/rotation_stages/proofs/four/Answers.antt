-- `rotation_stages::four` does two stages of four entries: the eight sums and differences, and four stores. Assumes nothing.
use native.Mathlib.Omega.{arith}
use lib.ListN.{length-set}
use Rattle.rotation_stages.proofs.Fours.{four-done}
use Rattle.rotation_stages.proofs.four.Goals as goal

pub bounds-values-second-2 : goal.bounds-values-second-2
bounds-values-second-2 c = simp length-set (omega arith)

pub bounds-values-third-2 : goal.bounds-values-third-2
bounds-values-third-2 c = simp length-set (omega arith)

pub bounds-values-fourth-2 : goal.bounds-values-fourth-2
bounds-values-fourth-2 c = simp length-set (omega arith)

pub returns : goal.returns
returns c = four-done _ _ _ c.requires.0 c.requires.1

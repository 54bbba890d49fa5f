-- `qjl_sums::eights` meets its contract: the loop keeps that the rows below `row` are through; eight more are stored, as far as there are so many. Assumes nothing.
use Rattle.std.proofs.Common.{length}
use Rattle.std.specs.Prelude.{min}
use lib.Ieee.{nan}
use Rattle.lists.specs.Inner.{Filled}
use Rattle.qjl_sums.specs.Inner.{on_row}
use Rattle.qjl_sums.proofs.eights.Given as goal

abbrev pub invariant-loop-row : goal.invariant-loop-row
invariant-loop-row l = Filled nan (on_row (length l.query) l.matrix l.query) 0 (min l.row (length l.initial.out)) l.initial.out l.out

-- `qjl_sums::each_row` meets its contract: the loop keeps that the rows so far are through, and that what is left of the matrix starts with the next row. Assumes nothing.
use Rattle.std.proofs.Common.{◌≡◌, ◌*◌, ◌≤◌, length, drop}
use lib.Ieee.{nan}
use Rattle.lists.specs.Inner.{Filled}
use Rattle.qjl_sums.specs.Inner.{on_row}
use Rattle.qjl_sums.proofs.each_row.Given as goal

abbrev pub invariant-loop-o : goal.invariant-loop-o
invariant-loop-o l = (l.from ≤ length l.matrix) × (drop l.from l.matrix ≡ drop (l.o-index * length l.query) l.matrix) × Filled nan (on_row (length l.query) l.matrix l.query) 0 l.o-index l.initial.out l.out

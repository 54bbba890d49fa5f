-- `qjl_sums::one_more` meets its contract: each sum takes its row's term. Assumes nothing.
use mathlib.Core.Path.{refl}
use native.Mathlib.Omega.{arith}
use Rattle.qjl_sums.proofs.Fours.{four-more}
use Rattle.qjl_sums.proofs.one_more.Goals as goal

pub overflow_add-second : goal.overflow_add-second
overflow_add-second c = omega arith

pub overflow_add-third : goal.overflow_add-third
overflow_add-third c = omega arith

pub overflow_add-fourth : goal.overflow_add-fourth
overflow_add-fourth c = omega arith

pub offset_bounds-query-column : goal.offset_bounds-query-column
offset_bounds-query-column c = omega arith

pub bounds-query-column : goal.bounds-query-column
bounds-query-column c = omega arith

pub overflow_add-result : goal.overflow_add-result
overflow_add-result c = omega arith

pub offset_bounds-matrix-from : goal.offset_bounds-matrix-from
offset_bounds-matrix-from c = omega arith

pub bounds-matrix-from : goal.bounds-matrix-from
bounds-matrix-from c = omega arith

pub overflow_add-result-2 : goal.overflow_add-result-2
overflow_add-result-2 c = omega arith

pub offset_bounds-matrix-second : goal.offset_bounds-matrix-second
offset_bounds-matrix-second c = omega arith

pub bounds-matrix-second : goal.bounds-matrix-second
bounds-matrix-second c = omega arith

pub overflow_add-result-3 : goal.overflow_add-result-3
overflow_add-result-3 c = omega arith

pub offset_bounds-matrix-third : goal.offset_bounds-matrix-third
offset_bounds-matrix-third c = omega arith

pub bounds-matrix-third : goal.bounds-matrix-third
bounds-matrix-third c = omega arith

pub overflow_add-result-4 : goal.overflow_add-result-4
overflow_add-result-4 c = omega arith

pub offset_bounds-matrix-fourth : goal.offset_bounds-matrix-fourth
offset_bounds-matrix-fourth c = omega arith

pub bounds-matrix-fourth : goal.bounds-matrix-fourth
bounds-matrix-fourth c = omega arith

pub returns : goal.returns
returns c = four-more _ _ _ _ _ _ _ _ _ _ c.requires.0 refl refl refl refl refl refl refl refl c.requires.1

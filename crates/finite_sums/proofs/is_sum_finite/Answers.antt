-- `finite_sums::is_sum_finite` meets its contract: the 32 sums have taken the values up to `at`, and the last sum takes them and the values after. Assumes nothing.
use mathlib.Core.Path.{sym, ◌∙◌, subst}
use native.Mathlib.Omega.{arith}
use lib.ListN.{length}
use lib.Seq.{take_all}
use lib.Ieee.{Float, binary32, of_bits}
use mathlib.Core.List.{List}
use Rattle.finite_sums.specs.Inner.{Ran}
use Rattle.finite_sums.proofs.Sums.{took-start, took-then, sum-clear}
use Rattle.finite_sums.proofs.is_sum_finite.Goals as goal

pub loop-at-init : goal.loop-at-init
loop-at-init c = (omega arith, (omega arith, took-start _ 0 _))

pub overflow_sub-values : goal.overflow_sub-values
overflow_sub-values c = omega arith

pub add_lanes-sums-requires : goal.add_lanes-sums-requires
add_lanes-sums-requires c = omega arith

pub overflow_add-at : goal.overflow_add-at
overflow_add-at c = omega arith

pub loop-at-smaller : goal.loop-at-smaller
loop-at-smaller c = omega arith

pub loop-at-preserved : goal.loop-at-preserved
loop-at-preserved c = (omega arith, (omega (arith, c.add_lanes-sums.type_inv), took-then _ 0 c.loop-at.invariant.1.1 c.add_lanes-sums.ensures))

pub add_up-begun-requires : goal.add_up-begun-requires
add_up-begun-requires c = omega arith

pub add_up-requires : goal.add_up-requires
add_up-requires c = omega arith

pub returns : goal.returns
returns c e = let l = c.loop-at in
    let a = c.args in
    sum-clear a.values.now l.sums _ l.at l.invariant.1.1
    (subst (λ (xs : List Float). Ran xs 0 (length xs) (of_bits binary32 0) c.add_up-begun.result) (take_all 32 l.sums (omega (arith, l.invariant.1.0))) c.add_up-begun.ensures)
    c.add_up.ensures (sym c.is_finite.ensures ∙ e)

-- `rotation_stages::transform` is every stage, in place, where there are two to the count values: the first two in a pass of their own, and then the others.
-- Assumes nothing.
use Prim.Native.Nat.{ℕ, ◌^◌, ◌-◌, ◌*◌, ◌≤◌}
use mathlib.Core.Path.{◌≡◌, sym, ◌∙◌}
use mathlib.Core.List.{List}
use native.Mathlib.Omega.{arith}
use lib.ListN.{length}
use lib.Ieee.{Float, binary32, add, sub}
use Rattle.float.specs.Constants.{pos_zero}
use Rattle.rounding.specs.Butterfly.{stage, stages}
use Rattle.rotation_stages.specs.Inner.{Steps}
use Rattle.rotation_stages.proofs.Ordered.{Running, running-start, running-twice, steps-fours}
use Rattle.rotation_stages.proofs.Transformed.{shifted, too_many, transformed-all, transformed-none}
use Rattle.rotation_stages.proofs.transform.Goals.{Else-values-count}
use Rattle.rotation_stages.proofs.transform.Goals as goal

-- there are two to the count values
whole : (c : goal.Else-values-count) → length c.args.values.now ≡ 2 ^ c.args.count
whole c = c.if-values-count.false ∙ shifted _ (omega arith)

start : (c : goal.Else-values-count) → Steps 1 c.args.count (length c.args.values.now)
start c = record { above = omega arith; whole = omega (arith, whole c) }

-- after the first two stages
running : (count : ℕ) (xs ys : List Float) → Steps 1 count (length xs) → 2 ≤ count → ys ≡ stage (add binary32) (sub binary32) pos_zero (2 * 1) (stage (add binary32) (sub binary32) pos_zero 1 xs) → Running 4 (count - 2) (stages (add binary32) (sub binary32) pos_zero count 1 xs) ys
running count xs ys steps l e = running-twice 1 count _ xs ys (running-start 1 count xs steps) l e

pub returns-then-count-gt63 : goal.returns-then-count-gt63
returns-then-count-gt63 c = sym (transformed-none _ _ (too_many _ _ c.if-count-gt63.true c.well_formed.0.0))

pub returns-then-values-count : goal.returns-then-values-count
returns-then-values-count c = sym (transformed-none _ _ (λ e. c.if-values-count.true (e ∙ sym (shifted _ (omega arith)))))

pub finish-requires : goal.finish-requires
finish-requires c = start (goal.at.finish-requires c).Else-values-count

pub returns-then-count-lt2 : goal.returns-then-count-lt2
returns-then-count-lt2 c = c.finish.ensures ∙ sym (transformed-all _ _ (whole (goal.at.returns-then-count-lt2 c).Else-values-count))

pub doubles-requires : goal.doubles-requires
doubles-requires c = steps-fours 1 _ _ (start (goal.at.doubles-requires c).Else-values-count) (omega arith)

pub finish-requires-2 : goal.finish-requires-2
finish-requires-2 c = (running _ _ _ (start (goal.at.finish-requires-2 c).Else-values-count) (omega arith) c.doubles.ensures).steps

pub returns : goal.returns
returns c = c.finish-2.ensures ∙ sym (running _ _ _ (start (goal.at.returns c).Else-values-count) (omega arith) c.doubles.ensures).same ∙ sym (transformed-all _ _ (whole (goal.at.returns c).Else-values-count))

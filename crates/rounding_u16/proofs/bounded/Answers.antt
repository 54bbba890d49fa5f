-- `rounding_u16::bounded` meets its contract, by the laws of `Bounds`. Assumes nothing.
use mathlib.Core.Path.{refl, sym, ap, ◌∙◌}
use mathlib.Core.Bool.{true≢false}
use native.Mathlib.Omega.{arith}
use lib.Ieee.{Float, lt, of_bits}
use Rattle.rounding_u16.proofs.Bounds.{most, below_zero_lem, above_most, between-small}
use Rattle.rounding_u16.proofs.bounded.Goals.{else-x, then-x}
use Rattle.rounding_u16.proofs.bounded.Goals as goal

pub returns-then-low : goal.returns-then-low
unfolding of_bits
returns-then-low c = elim c.if-x.branch [ then-x w ↦ rw w.low-is (between-small _ w.if-x.true (ap (λ (x : Float). lt x most) (sym w.low-is) ∙ c.if-low.true), refl) | else-x w ↦ rw w.low-is (omega arith, below_zero_lem _ w.if-x.false) ]

pub returns-else-low : goal.returns-else-low
unfolding of_bits lt
returns-else-low c = elim c.if-x.branch [ then-x w ↦ (omega arith, above_most _ w.if-x.true (ap (λ (x : Float). lt x most) (sym w.low-is) ∙ c.if-low.false)) | else-x w ↦ absurd (true≢false (ap (λ (x : Float). lt x most) (sym w.low-is) ∙ c.if-low.false)) ]

-- `radius::all_good` meets its contract: a turn keeps `Flagged`. Assumes nothing.
use Rattle.std.proofs.Common.{◌≡◌, true, false, get_or, sym, ◌∙◌}
use Rattle.std.proofs.lemmas.Bool.{false≢true}
use lib.Ieee.{nan, inf, lt, nan_bits, of_bits}
use Rattle.float.specs.Constants.{pos_zero}
use Rattle.radius.proofs.Passes.{flagged-next}
use Rattle.radius.proofs.all_good.Goals.{Joined-not-radius, Joined-radius, else-not-radius, else-radius, then-not-radius, then-radius}
use Rattle.radius.proofs.all_good.Goals as goal

pub float_from_bits-t-12 : goal.float_from_bits-t-12
unfolding nan_bits
float_from_bits-t-12 c = tt

-- a flag that stands after its test stood before it, and the test passed
stands-above : (c : goal.Joined-radius) → c.if-radius.above ≡ true → (c.loop-radius.above ≡ true) × (lt (get_or c.args.radii.now c.loop-radius.radius-index nan) pos_zero ≡ false)
unfolding of_bits
stands-above c e = elim c.if-radius.branch [ then-radius w ↦ absurd (false≢true (sym w.above-is ∙ e)) | else-radius w ↦ (sym w.above-is ∙ e, w.if-radius.false) ]

stands-below : (c : goal.Joined-not-radius) → c.if-not-radius.below ≡ true → (c.loop-radius.below ≡ true) × (lt (get_or c.args.radii.now c.loop-radius.radius-index nan) (inf false) ≡ true)
unfolding of_bits
stands-below c e = elim c.if-not-radius.branch [ then-not-radius w ↦ absurd (false≢true (sym w.below-is ∙ e)) | else-not-radius w ↦ (sym w.below-is ∙ e, w.if-not-radius.false) ]

pub loop-radius-preserved : goal.loop-radius-preserved
loop-radius-preserved c = flagged-next (λ r. r) _ _ _ _ _ _ c.loop-radius-test.true (stands-above (goal.at.loop-radius-preserved c).Joined-radius) (stands-below (goal.at.loop-radius-preserved c).Joined-not-radius) c.loop-radius.invariant

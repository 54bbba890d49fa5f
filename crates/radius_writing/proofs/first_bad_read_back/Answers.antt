-- `radius_writing::first_bad_read_back` meets its contract: by the profile; floats come back as they are. Assumes nothing.
use mathlib.Core.Path.{sym, ap, ◌∙◌}
use Rattle.error.specs.Answer.{place}
use Rattle.radius_writing.specs.Inner.{bad_kept}
use Rattle.radius.specs.declared.Range.{Range}
use Rattle.radius.specs.Radii.{bad_radius}
use Rattle.error.proofs.Places.{found-or}
use Rattle.radius_writing.proofs.ReadBack.{first_bad_floats-back, first_bad_linear-back, first-bad-log-back}
use Rattle.radius_writing.proofs.first_bad_read_back.Goals as goal

pub returns-in-F32 : goal.returns-in-F32
returns-in-F32 c = rw c.in-F32.is (c.unwrap_or.ensures ∙ found-or bad_radius _ c.first_bad_radius.ensures ∙ sym (first_bad_floats-back _ (record { at = λ i h. c.type_inv.radii i })))

pub returns-in-BlockLinearU16 : goal.returns-in-BlockLinearU16
returns-in-BlockLinearU16 c = rw c.in-BlockLinearU16.is (c.first_bad_kept.ensures ∙ ap (λ (range : Range). place (bad_kept range) c.args.radii.now) c.range_of.ensures ∙ sym (first_bad_linear-back _))

pub returns-in-BlockLogU8 : goal.returns-in-BlockLogU8
returns-in-BlockLogU8 c = rw c.in-BlockLogU8.is (sym (first-bad-log-back _))

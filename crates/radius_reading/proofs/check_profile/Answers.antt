-- `radius_reading::check_profile` meets its contract: the profile, then the length that it needs. Assumes nothing.
use mathlib.Core.Path.{sym, ◌∙◌}
use Rattle.radius.proofs.Widths.{width-known}
use Rattle.radius_reading.proofs.check_profile.Goals as goal

pub bad_length-requires : goal.bad_length-requires
bad_length-requires c = rw c.width_of.ensures (width-known c.args.profile (sym c.is_bad_profile.ensures ∙ c.if-is_bad_profile.false))

pub returns-then-bad_length : goal.returns-then-bad_length
returns-then-bad_length c = simp (sym c.is_bad_profile.ensures ∙ c.if-is_bad_profile.false, ← c.width_of.ensures, sym c.bad_length.ensures ∙ c.if-bad_length.true)

pub returns : goal.returns
returns c = simp (sym c.is_bad_profile.ensures ∙ c.if-is_bad_profile.false, ← c.width_of.ensures, sym c.bad_length.ensures ∙ c.if-bad_length.false)

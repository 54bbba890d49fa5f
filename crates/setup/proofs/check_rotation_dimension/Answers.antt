-- `setup::check_rotation_dimension` meets its contract, rotation by rotation. Assumes nothing.
use Rattle.std.proofs.Common.{sym, ◌∙◌}
use Rattle.setup.proofs.check_rotation_dimension.Goals as goal

pub returns-then-outside_powers : goal.returns-then-outside_powers
returns-then-outside_powers c = simp (c.in-FastHadamard.is, sym c.outside_powers.ensures ∙ c.if-outside_powers.true)

pub returns-then-outside_stored : goal.returns-then-outside_stored
returns-then-outside_stored c = simp (c.in-Stored.is, sym c.outside_stored.ensures ∙ c.if-outside_stored.true)

pub returns-else-outside_powers : goal.returns-else-outside_powers
returns-else-outside_powers c = simp (c.in-FastHadamard.is, sym c.outside_powers.ensures ∙ c.if-outside_powers.false)

pub returns-else-outside_stored : goal.returns-else-outside_stored
returns-else-outside_stored c = simp (c.in-Stored.is, sym c.outside_stored.ensures ∙ c.if-outside_stored.false)

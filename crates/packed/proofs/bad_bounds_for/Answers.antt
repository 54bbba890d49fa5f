-- `packed::bad_bounds_for` meets its contract. Assumes nothing.
use Rattle.packed.proofs.bad_bounds_for.Goals as goal

pub returns-in-BlockLinearU16 : goal.returns-in-BlockLinearU16
returns-in-BlockLinearU16 c = simp (c.in-BlockLinearU16.is, ← c.bad_bounds.ensures)

-- `radius_reading::read_payload` meets its contract: by the profile, which is none but the two. Assumes nothing.
use mathlib.Core.Bool.{true≢false}
use Rattle.radius_reading.proofs.read_payload.Goals as goal

pub read_floats-requires : goal.read_floats-requires
read_floats-requires c = rw c.in-F32.is at c.requires.1

pub read_linear-requires : goal.read_linear-requires
read_linear-requires c = rw c.in-BlockLinearU16.is at c.requires.1

pub returns-in-F32 : goal.returns-in-F32
returns-in-F32 c = rw c.in-F32.is c.read_floats.ensures

pub returns-in-BlockLinearU16 : goal.returns-in-BlockLinearU16
returns-in-BlockLinearU16 c = rw c.in-BlockLinearU16.is c.read_linear.ensures

pub returns-in-BlockLogU8 : goal.returns-in-BlockLogU8
returns-in-BlockLogU8 c = absurd (true≢false (rw c.in-BlockLogU8.is at c.requires.0))

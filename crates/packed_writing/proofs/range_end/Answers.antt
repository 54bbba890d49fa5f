-- `packed_writing::range_end` meets its contract, by the profile. Assumes nothing.
use Rattle.packed_writing.proofs.range_end.Goals as goal

pub returns-in-F32 : goal.returns-in-F32
returns-in-F32 c = rw c.in-F32.is

pub returns-in-BlockLinearU16 : goal.returns-in-BlockLinearU16
returns-in-BlockLinearU16 c = rw c.in-BlockLinearU16.is

pub returns-in-BlockLogU8 : goal.returns-in-BlockLogU8
returns-in-BlockLogU8 c = rw c.in-BlockLogU8.is

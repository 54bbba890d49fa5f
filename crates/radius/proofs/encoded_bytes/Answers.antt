-- `radius::encoded_bytes` meets its contract, profile by profile. Assumes nothing.
use native.Mathlib.Nat.{add-zero}
use Rattle.radius.specs.Codec.{encoded_bytes_of}
use Rattle.radius.proofs.encoded_bytes.Goals as goal

pub returns-in-F32 : goal.returns-in-F32
unfolding encoded_bytes_of
returns-in-F32 c = rw (c.in-F32.is, add-zero)

pub returns-in-BlockLinearU16 : goal.returns-in-BlockLinearU16
unfolding encoded_bytes_of
returns-in-BlockLinearU16 c = rw c.in-BlockLinearU16.is

pub returns-in-BlockLogU8 : goal.returns-in-BlockLogU8
unfolding encoded_bytes_of
returns-in-BlockLogU8 c = rw c.in-BlockLogU8.is

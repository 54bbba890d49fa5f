-- `radius_reading::first_bad_payload` meets its contract: by the profile, a search through as many radii as the payload holds whole. Assumes nothing.
use mathlib.Core.Path.{sym}
use Rattle.radius.specs.Firsts.{first_bad_payload_of}
use Rattle.radius_reading.proofs.Scan.{first-bad-log}
use Rattle.radius_reading.proofs.first_bad_payload.Goals as goal

pub returns-in-F32 : goal.returns-in-F32
unfolding first_bad_payload_of
returns-in-F32 c = rw c.in-F32.is c.first_bad_floats.ensures

pub returns-in-BlockLinearU16 : goal.returns-in-BlockLinearU16
unfolding first_bad_payload_of
returns-in-BlockLinearU16 c = rw c.in-BlockLinearU16.is c.first_bad_linear.ensures

pub returns-in-BlockLogU8 : goal.returns-in-BlockLogU8
returns-in-BlockLogU8 c = rw c.in-BlockLogU8.is (sym (first-bad-log _ _))

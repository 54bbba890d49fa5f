-- `scan::empty` meets its contract. Assumes nothing.
use mathlib.Core.Path.{refl}
use Rattle.scan.specs.Opening.{empty_of}
use Rattle.scan.proofs.empty.Goals as goal

pub returns : goal.returns
unfolding empty_of lib.Ieee.of_bits
returns c = refl

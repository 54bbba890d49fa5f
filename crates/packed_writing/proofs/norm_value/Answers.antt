-- `packed_writing::norm_value` meets its contract. Assumes nothing.
use lib.Ieee.{of_bits}
use Rattle.packed_writing.proofs.norm_value.Goals as goal

pub returns-in-None : goal.returns-in-None
unfolding of_bits
returns-in-None c = rw c.in-None.is

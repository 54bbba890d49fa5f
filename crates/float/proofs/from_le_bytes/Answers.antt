-- `float::from_le_bytes` meets its contract: the pattern is the number that has these four bytes for its digits. Assumes nothing.
use Rattle.std.proofs.Common.{ap, ◌∙◌}
use lib.Ieee.{binary32, of_bits}
use Rattle.float.specs.Bytes.{of_le_bytes}
use Rattle.float.proofs.from_le_bytes.Goals as goal

pub returns : goal.returns
unfolding of_le_bytes
returns c = c.from_bits.ensures ∙ ap (of_bits binary32) c.word_of.ensures

-- `float::to_bits` meets its contract: a NaN has one pattern, and every other float its own. Assumes nothing.
use Rattle.std.proofs.Common.{◌≡◌, sym, refl, ap, ◌∙◌}
use lib.Ieee.{nan, binary32, to_bits}
use Rattle.float.proofs.Nan.{nan-only}
use Rattle.float.proofs.to_bits.Goals as goal

nan_pattern : 0x7FC0_0000 ≡ to_bits binary32 nan
unfolding to_bits
nan_pattern = refl

pub returns-then-is_nan : goal.returns-then-is_nan
returns-then-is_nan c = nan_pattern ∙ ap (to_bits binary32) (sym (nan-only _ (sym c.is_nan.ensures ∙ c.if-is_nan.true)))

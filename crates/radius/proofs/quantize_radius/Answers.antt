-- `radius::quantize_radius` meets its contract: the definition's steps, one by one. Assumes nothing.
use mathlib.Core.Path.{ap, ◌∙◌}
use lib.Ieee.{Float, binary32, mul, of_bits}
use Rattle.float.specs.Rounding.{round_unsigned}
use Rattle.radius.specs.Radii.{top_float}
use Rattle.radius.specs.Linear.{quantize_radius_of}
use Rattle.radius.proofs.quantize_radius.Goals as goal

pub returns : goal.returns
unfolding quantize_radius_of of_bits
returns c = c.round_u16.ensures ∙ ap (λ (x : Float). round_unsigned 16 (mul binary32 x top_float)) c.clamp-normalized.ensures

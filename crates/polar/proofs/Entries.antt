-- A product with an entry that is there, whatever stands for what is missing. Assumes nothing.
use Rattle.std.proofs.Common.{◌≡◌, ℕ, ◌<◌, List, length, get_or, ap, ◌∙◌}
use lib.Ieee.{Float, nan, binary32, mul}
use Rattle.rounding.proofs.Lists.{get_d_any}
use Rattle.polar.specs.Polar.{value_at}
use Rattle.float.specs.Constants.{pos_zero}

-- a product with an entry that is there
pub product_at : (vs : List Float) (i : ℕ) (v : Float) {w : Float} → i < length vs → v ≡ w → mul binary32 (get_or vs i nan) v ≡ mul binary32 (value_at vs i) w
product_at vs i v h e = ap (λ (u : Float). mul binary32 u v) (get_d_any vs nan pos_zero i h) ∙ ap (mul binary32 (value_at vs i)) e

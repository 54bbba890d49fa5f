-- The range of radii that are f32 and pass their check: both ends are f32, and it is a range that a record may hold. Assumes nothing.
use Prim.Native.Nat.{ℕ, ◌<◌}
use mathlib.Core.Path.{◌≡◌, refl}
use mathlib.Core.Bool.{false}
use mathlib.Core.List.{List}
use lib.Dec.{T}
use lib.ListN.{length, get_or}
use lib.Ieee.{Float, nan, binary32, fits, lt, of_bits}
use lib.Ieee.Bits.{of_bits-fits}
use Rattle.float.specs.Constants.{pos_zero}
use Rattle.radius.specs.Radii.{bad_radius, range_of}
use Rattle.radius.proofs.Ranges.{min-has, max-has, range-order}
use Rattle.radius.proofs.RoundTrip.{Floats}
use Rattle.packed.specs.Radii.{bad_bounds}

-- +0.0 is an f32
pub zero-fits : T (fits binary32 pos_zero)
unfolding of_bits
zero-fits = of_bits-fits binary32 0

pub min-fits : (rs : List Float) → Floats rs → T (fits binary32 (range_of rs).min)
min-fits rs f = min-has (λ x. T (fits binary32 x)) rs zero-fits f.at

pub max-fits : (rs : List Float) → Floats rs → T (fits binary32 (range_of rs).max)
max-fits rs f = max-has (λ x. T (fits binary32 x)) rs zero-fits f.at

zero-good : bad_radius pos_zero ≡ false
unfolding lt of_bits
zero-good = refl

-- the range of radii that pass is one that a record may hold
pub range-good : (rs : List Float) → ((i : ℕ) → i < length rs → bad_radius (get_or rs i nan) ≡ false) → bad_bounds (range_of rs) ≡ false
range-good rs h = rw (min-has (λ x. bad_radius x ≡ false) rs zero-good h, max-has (λ x. bad_radius x ≡ false) rs zero-good h) (range-order rs)

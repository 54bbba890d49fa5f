-- Computed: the bound of one pair without residual and with one, by an account whose count and factor differ from the dimension and from 1. Assumes nothing.
use Prim.Native.Nat.{◌+◌, ◌*◌, ◌^◌}
use mathlib.Core.Path.{◌≡◌, refl}
use mathlib.Core.Bool.{true, false}
use mathlib.Core.List.{List, [], ◌∷◌}
use lib.IntN.{pos, negsuc}
use lib.Ieee.{Float, fin}
use Rattle.float.specs.Constants.{one}
use Rattle.float.specs.Units.{unit, mag}
use Rattle.rounding.specs.Butterfly.{from}
use Rattle.rounding.specs.Sums.{sum, absolute_sum}
use Rattle.setup.specs.Lent.{Lent}
use Rattle.setup.specs.declared.Setup.{Setup}
use Rattle.setup.specs.declared.RotationKind.TheVariants.{FastHadamard}
use Rattle.setup.specs.declared.TurboMode.TheVariants.{PolarOnly, PolarWithQjl}
use Rattle.polar.specs.Exact.{size_term, polar_size}
use Rattle.qjl_residual.specs.Residual.{scale_of}
use Rattle.qjl_residual.specs.Exact.{residual_size, whole_norm}
use Rattle.turbo_order.specs.Account.{Account}
use Rattle.turbo_order.specs.Scores.{Content, size_by, per_step, per_radius, bound_by}

abbrev account : Account
account = record { entries = []; exact = []; sizes = 3 ∷ 5 ∷ []; count = 4; factor = 7 }

abbrev setup : Setup
setup = record { mode = PolarOnly; dim = 2; bits = 1; projections = 0; kind = FastHadamard }

-- the direction (1.0, -1.0)
abbrev lent : Lent
lent = record { rotation = []; directions = one false ∷ one true ∷ []; matrix = [] }

-- one radius, 1.0
abbrev content : Content
content = record { radii = one false ∷ []; indices = 0 ∷ []; signs = []; norm = one false }

-- r(|c| × 3 + |s| × 5)
pub size_of-pair : size_by account setup lent [] content ≡ 2 ^ 149 * (2 ^ 149 * 3 + 2 ^ 149 * 5)
unfolding size_by polar_size size_term sum from mag unit
size_of-pair = refl

-- (4 + 0 + 16) × A, 7 × R and 2 × 0 + 2
pub bound-of-pair : bound_by account setup lent [] content ≡ 20 * (2 ^ 149 * (2 ^ 149 * 8)) + (2 ^ 324 * (7 * 2 ^ 149) + 2 ^ 473 * 2)
unfolding bound_by size_by polar_size size_term absolute_sum sum from mag unit whole_norm per_step per_radius
bound-of-pair = refl

-- ---- with a residual of one row, (1.0, -1.0), the query (1.0, 1.0) and the norm 1.5
abbrev one_row_setup : Setup
one_row_setup = record { mode = PolarWithQjl; dim = 2; bits = 2; projections = 1; kind = FastHadamard }

abbrev one_row_lent : Lent
one_row_lent = record { rotation = []; directions = one false ∷ one true ∷ []; matrix = one false ∷ one true ∷ [] }

abbrev one_row_content : Content
one_row_content = record { radii = one false ∷ []; indices = 0 ∷ []; signs = pos 1 ∷ []; norm = fin false 3 (negsuc 0) }

abbrev one_row_query : List Float
one_row_query = one false ∷ one false ∷ []

-- the same for the pair, and the residual's size, with K of the norm 1.5
pub size_of-residual : size_by account one_row_setup one_row_lent one_row_query one_row_content ≡ 2 ^ 149 * (2 ^ 149 * 8) + 2 ^ 149 * residual_size (scale_of 1 (fin false 3 (negsuc 0))) 2 1 (one false ∷ one true ∷ []) (one false ∷ one false ∷ [])
unfolding size_by polar_size size_term sum from mag unit
size_of-residual = refl

-- (4 + 1 + 16) × A, 7 × R and 2 × 1 × 2 + 2: 1.5 is rounded up to 2
pub bound-of-residual : bound_by account one_row_setup one_row_lent one_row_query one_row_content ≡ 21 * size_by account one_row_setup one_row_lent one_row_query one_row_content + (2 ^ 324 * (7 * 2 ^ 149) + 2 ^ 473 * 6)
unfolding bound_by absolute_sum sum mag unit whole_norm per_step per_radius
bound-of-residual = refl

-- These are the score of what a record holds under a setup and a query, the exact score, and the bound between them: document 01, 'Rotation, sketch, score'. What
-- they take from the rotation is an account of it, so that they stand here once for every rotation. Score, exact score and bound are whole numbers at one fixed
-- scale, 2 ^ -619: a product of four f32 is a whole number of 2 ^ -596, and the bound has 2 ^ 23 below its line. In every quote K is document 02's, 'root(PI / 2) ×
-- norm / m, in that order', with the norm of the record. Assumes nothing.
use Rattle.std.specs.Prelude.{ℕ, ◌+◌, ◌*◌, ◌^◌, List, ℤ, Float}
use Rattle.std.specs.Float.{binary32}
use Rattle.std.specs.Float.Ieee.{add}
use Rattle.rounding.specs.Signed.{Diff, ◌⊞◌, ◌⊙◌}
use Rattle.float.specs.Units.{unit}
use Rattle.setup.specs.Lent.{Lent}
use Rattle.setup.specs.declared.Setup.{Setup}
use Rattle.setup.specs.Setups.{by_mode, by_rotation, counted_projections_of}
use Rattle.polar.specs.Polar.{polar_sum_of}
use Rattle.polar.specs.Exact.{exact_polar, polar_size}
use Rattle.rounding.specs.Sums.{absolute_sum}
use Rattle.rounding.specs.Rows.{projected}
use Rattle.qjl_residual.specs.Residual.{scale_of, residual_of}
use Rattle.qjl_residual.specs.Exact.{exact_residual, residual_size, whole_norm}
use Rattle.turbo_order.specs.Account.{Account, hadamard_account, stored_account}

-- A record holds this, as read from it: a radius and an index for each pair, its signs, and its own norm; 'without it the norm is 1.0' (document 02).
pub record Content : Type 0 where
  pub radii : List Float
  pub indices : List ℕ
  pub signs : List ℤ
  pub norm : Float

-- ---- the score
-- 'The score is the polar sum plus the residual, rounded; in `PolarOnly` it is the polar sum.' The query comes rotated, and projected as `values`.
unfoldable pub score_from : Setup → List Float → List Float → List Float → Content → Float
score_from s directions rotated values c =
    by_mode s.mode
    (polar_sum_of rotated directions c.indices c.radii)
    (add binary32 (polar_sum_of rotated directions c.indices c.radii) (residual_of s.projections c.norm values c.signs))

-- This is the score by an account of the query's rotation, with the query projected on the matrix.
abbrev pub score_by : Account → Setup → Lent → List Float → Content → Float
score_by a s l query c = score_from s l.directions a.entries (projected s.dim s.projections l.matrix query) c

-- ---- 'The exact score replaces each rounded step from query to score by its exact one', in units of 2 ^ -596
-- 'the sum over pairs of r × (qa × c + qb × s), .. (qa, qb) its two entries of the query rotated without rounding'.
abbrev pub exact_polar_part : Account → Lent → Content → Diff
exact_polar_part a l c = exact_polar a.exact l.directions c.indices c.radii

-- 'K × the sum over rows of the record's sign × projected value' is a whole number of 2 ^ -447, brought to 2 ^ -596 here.
abbrev pub exact_residual_part : Setup → Lent → List Float → Content → Diff
exact_residual_part s l query c = unit ⊙ exact_residual (scale_of s.projections c.norm) s.dim s.projections l.matrix query c.signs

unfoldable pub exact_by : Account → Setup → Lent → List Float → Content → Diff
exact_by a s l query c = by_mode s.mode (exact_polar_part a l c) (exact_polar_part a l c ⊞ exact_residual_part s l query c)

-- ---- 'A = (1/sqrt(n)) × X × sum of r(|c| + |s|), plus K × the sum of all |matrix entry × query entry|', in units of 2 ^ -596;
-- 'Without residual the K part is 0.'
-- This is the sum of r(|c| × a + |s| × b), where a and b are the sums that bound the pair's two entries. Each is (1/sqrt(n)) × X for the Hadamard rotation, and
-- `AsWritten` has the product that document 01 writes; for a stored one it is 'its rotated entry's sum of |matrix entry × query entry|' (document 02).
abbrev pub polar_part_size : Account → Lent → Content → ℕ
polar_part_size a l c = polar_size a.sizes l.directions c.indices c.radii

abbrev pub residual_part_size : Setup → Lent → List Float → Content → ℕ
residual_part_size s l query c = unit * residual_size (scale_of s.projections c.norm) s.dim s.projections l.matrix query

unfoldable pub size_by : Account → Setup → Lent → List Float → Content → ℕ
size_by a s l query c = by_mode s.mode (polar_part_size a l c) (polar_part_size a l c + residual_part_size s l query c)

-- ---- at the scale 2 ^ -619
-- This many make 2 ^ -149, of which every finite float is a whole number.
unfoldable pub per_unit : ℕ
per_unit = 2 ^ 470

-- This many make 1 / 2 ^ 146.
unfoldable pub per_step : ℕ
per_step = 2 ^ 473

-- This many make 2 ^ -149 / 2 ^ 146, of which R / 2 ^ 146 is a whole number.
unfoldable pub per_radius : ℕ
per_radius = 2 ^ 324

-- 'bound = (n + m + 16) × A / 2^23 + (R + n×m + n) / 2^146', with the account's count for the first n, and R times its factor. Document 02: 'In the bound, n×m is
-- multiplied by a whole number: the norm rounded up, and at least 1.'
unfoldable pub bound_by : Account → Setup → Lent → List Float → Content → ℕ
bound_by a s l query c =
    (a.count + counted_projections_of s + 16) * size_by a s l query c
    + (per_radius * (a.factor * absolute_sum c.radii) + per_step * (s.dim * counted_projections_of s * whole_norm c.norm + s.dim))

-- ---- under the rotation of the setup
abbrev pub account_of : Setup → Lent → List Float → Account
account_of s l query = by_rotation s.kind (hadamard_account s.dim l.rotation query) (stored_account s.dim l.rotation query)

unfoldable pub score_of : Setup → Lent → List Float → Content → Float
score_of s l query c = score_by (account_of s l query) s l query c

-- These two are the exact score and the bound, at the scale 2 ^ -619.
abbrev pub scaled_exact : Setup → Lent → List Float → Content → Diff
scaled_exact s l query c = 2 ^ 23 ⊙ exact_by (account_of s l query) s l query c

abbrev pub score_bound : Setup → Lent → List Float → Content → ℕ
score_bound s l query c = bound_by (account_of s l query) s l query c

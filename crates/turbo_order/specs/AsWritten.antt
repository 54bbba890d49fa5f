-- The size and the bound of a score are stated here as documents 01 and 02 write them. The definitions speak of an account of the rotation, entry by entry. For the
-- Hadamard rotation they come to document 01's products, and for a stored one to document 02's sums. Assumes nothing.
use Rattle.std.specs.Prelude.{ℕ, ◌+◌, ◌*◌, ◌≤◌, ◌≡◌, List, length, Float}
use Rattle.float.specs.Units.{mag}
use Rattle.rounding.specs.Sums.{absolute_sum}
use Rattle.rotation.specs.Rotation.{inverse_root}
use Rattle.rotation_stored.specs.Exact.{stored_sizes}
use Rattle.polar.specs.Exact.{direction_sum, polar_size}
use Rattle.qjl_residual.specs.Exact.{whole_norm}
use Rattle.setup.specs.Lent.{Lent}
use Rattle.setup.specs.declared.Setup.{Setup}
use Rattle.setup.specs.declared.RotationKind.TheVariants.{FastHadamard, Stored}
use Rattle.setup.specs.Setups.{by_mode, counted_projections_of}
use Rattle.turbo_order.specs.Scores.{Content, account_of, residual_part_size, size_by, per_step, per_radius, score_bound}

-- This is the first part of A: '(1/sqrt(n)) × X × sum of r(|c| + |s|)'.
abbrev pub written_polar_size : Setup → Lent → List Float → Content → ℕ
written_polar_size s l query c = mag (inverse_root s.dim) * absolute_sum query * direction_sum l.directions c.indices c.radii

-- 'A = .., plus K × the sum of all |matrix entry × query entry|'; 'Without residual the K part is 0.'
abbrev pub written_size : Setup → Lent → List Float → Content → ℕ
written_size s l query c = by_mode s.mode (written_polar_size s l query c) (written_polar_size s l query c + residual_part_size s l query c)

-- Under a stored rotation the first part of A has, 'for each |c| and |s|, its rotated entry's sum of |matrix entry × query entry| in place of (1/sqrt(n)) × X' (document
-- 02).
abbrev pub written_stored_polar_size : Setup → Lent → List Float → Content → ℕ
written_stored_polar_size s l query c = polar_size (stored_sizes s.dim l.rotation query) l.directions c.indices c.radii

abbrev pub written_stored_size : Setup → Lent → List Float → Content → ℕ
written_stored_size s l query c = by_mode s.mode (written_stored_polar_size s l query c) (written_stored_polar_size s l query c + residual_part_size s l query c)

pub record AsWritten : Type 0 where
  -- Under the Hadamard rotation both are claimed of what a record holds that has at most one radius for each pair of the setup's dimension.
  pub size : (s : Setup) (l : Lent) (query : List Float) (c : Content) → s.kind ≡ FastHadamard → 2 * length c.radii ≤ s.dim
      → size_by (account_of s l query) s l query c ≡ written_size s l query c
  -- 'bound = (n + m + 16) × A / 2^23 + (R + n×m + n) / 2^146', where 'n×m is multiplied by a whole number: the norm rounded up, and at least 1' (document 02).
  pub bound : (s : Setup) (l : Lent) (query : List Float) (c : Content) → s.kind ≡ FastHadamard → 2 * length c.radii ≤ s.dim
      → score_bound s l query c
      ≡ (s.dim + counted_projections_of s + 16) * written_size s l query c + (per_radius * absolute_sum c.radii + per_step * (s.dim * counted_projections_of s * whole_norm c.norm + s.dim))
  pub stored_size : (s : Setup) (l : Lent) (query : List Float) (c : Content) → s.kind ≡ Stored → size_by (account_of s l query) s l query c ≡ written_stored_size s l query c
  -- 'with n + m + 16 read as 2n + m + 16, R multiplied by n'.
  pub stored_bound : (s : Setup) (l : Lent) (query : List Float) (c : Content) → s.kind ≡ Stored
      → score_bound s l query c
      ≡ (2 * s.dim + counted_projections_of s + 16) * written_stored_size s l query c
      + (per_radius * (s.dim * absolute_sum c.radii) + per_step * (s.dim * counted_projections_of s * whole_norm c.norm + s.dim))

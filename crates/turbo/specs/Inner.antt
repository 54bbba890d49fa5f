-- Private functions of this crate ensure these. No public promise is stated by them. Assumes nothing.
use Rattle.std.specs.Prelude.{ℕ, ◌≡◌, List, Float}
use Rattle.error.specs.Answer.{first, accepted}
use Rattle.setup.specs.Setups.{counted_projections_of}
use Rattle.setup_tables.specs.Checks.{direction_checks}
use Rattle.setup.specs.declared.Setup.{Setup}

-- The directions pass, and the lengths of a prepared query are the setup's.
pub record Lengths (s : Setup) (directions : List Float) (rotated projected : ℕ) : Type 0 where
  pub table : first (direction_checks s directions) accepted ≡ accepted
  pub rotated_long : rotated ≡ s.dim
  pub projected_long : projected ≡ counted_projections_of s

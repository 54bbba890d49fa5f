-- Private functions ask this of their callers; no public promise is stated by it. Assumes nothing.
use Rattle.std.specs.Prelude.{ℕ, ◌≤◌, ◌≡◌}
use Rattle.std.specs.Int.Count.{ones}

-- The dimension is a power of two up to 4,096, and there are as many values.
pub record Transformable (dim long : ℕ) : Type 0 where
  pub bit : ones dim ≡ 1
  pub small : dim ≤ 4096
  pub whole : long ≡ dim

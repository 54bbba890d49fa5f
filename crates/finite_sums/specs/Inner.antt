-- Private functions of this crate ensure these: what a finite sum tells of its terms. No public promise is stated by these. Assumes nothing.
use Rattle.std.specs.Prelude.{ℕ, ◌≤◌, ◌<◌, List, T, length, get_or, Float}
use Rattle.std.specs.Float.{nan}
use Rattle.std.specs.Float.Ieee.Scale.{finite}

-- The values from one index up to another are finite.
abbrev pub Among : List Float → ℕ → ℕ → Type 0
Among values from to = (k : ℕ) → from ≤ k → k < to → T (finite (get_or values k nan))

-- To some of the sums `old` the values from one index up to another were added, which gave `new`: where all of these are finite, so are those and the values.
pub record Took (values : List Float) (from to : ℕ) (old new : List Float) : Type 0 where
  pub told : Among new 0 (length new) → Among old 0 (length old) × Among values from to

-- The same for one sum.
pub record Ran (values : List Float) (from to : ℕ) (old new : Float) : Type 0 where
  pub told : T (finite new) → T (finite old) × Among values from to

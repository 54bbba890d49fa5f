-- A private function ensures this of the room that values are summed into; no public promise is stated by it. Assumes nothing.
use Rattle.std.specs.Prelude.{ℕ, ◌≤◌, ◌≡◌}

-- The room is at most 512, and up to 512 values all have room.
pub record Room (long room : ℕ) : Type 0 where
  pub small : room ≤ 512
  pub whole : long ≤ 512 → room ≡ long

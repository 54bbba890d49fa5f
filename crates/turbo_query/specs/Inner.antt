-- Private functions of this crate ensure some of these, and their proofs and those of `turbo_phased` use the others: a query is rotated and projected in room of its own, judged, and
-- handed to two outputs. No public promise is stated by these. Assumes nothing.
use Rattle.std.specs.Prelude.{ℕ, ◌≡◌, List, [], ◌∷◌, length, Float}
use Rattle.error.specs.Answer.{Answer, value, Check, first, accepted, after}
use Rattle.error.specs.Checks.{wrong_room}
use Rattle.setup.specs.Setups.{counted_projections_of}
use Rattle.setup.specs.declared.Setup.{Setup}

-- There is room for just the query rotated and the query projected.
pub record Fitting (s : Setup) (room space : ℕ) : Type 0 where
  pub rotated_room : room ≡ s.dim
  pub projected_room : space ≡ counted_projections_of s

-- 6 for either output: n values are needed in the first, whose length is `room`, and m in the second, whose length is `space`.
abbrev pub handed_checks : ℕ → ℕ → ℕ → ℕ → List Check
handed_checks n m room space = wrong_room room n ∷ wrong_room space m ∷ []

-- The call says `said`, and the outputs hold out' and other' afterwards: both values, or what they held before.
pub record Handed (n m : ℕ) (rotated projected out other : List Float) (said : Answer (Unit {0})) (out' other' : List Float) : Type 0 where
  pub answer : said ≡ first (handed_checks n m (length out) (length other)) accepted
  pub rotated_after : out' ≡ after (first (handed_checks n m (length out) (length other)) (value rotated)) out
  pub projected_after : other' ≡ after (first (handed_checks n m (length out) (length other)) (value projected)) other

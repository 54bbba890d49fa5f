-- Private contracts and proofs of other crates say this of a loop that fills a list. No public promise is stated by it. Assumes nothing.
use Rattle.std.specs.Prelude.{ℕ, ◌≤◌, ◌<◌, ◌≡◌, List, length, get_or}

-- The list xs has become ys: each entry from `start` up to `stop`, itself not included, holds what f gives there. d stands for what lies outside a list.
pub record Filled {A : Type 0} (d : A) (f : ℕ → A) (start stop : ℕ) (xs ys : List A) : Type 0 where
  pub long : length ys ≡ length xs
  pub before : (j : ℕ) → j < start → get_or ys j d ≡ get_or xs j d
  pub passed : (j : ℕ) → start ≤ j → j < stop → get_or ys j d ≡ f j
  pub left : (j : ℕ) → stop ≤ j → get_or ys j d ≡ get_or xs j d

-- Private functions of several crates read bytes of a list one by one, and their contracts say so by these. They are the items from `at` on, where there are so
-- many: `run-two` and `run-four` in lists/proofs/Stores.antt. No public promise is stated by these. Assumes nothing.
use Rattle.std.specs.Prelude.{ℕ, ◌+◌, List, [], ◌∷◌, get_or}

abbrev pub two_at : List ℕ → ℕ → List ℕ
two_at xs at = get_or xs at 0 ∷ get_or xs (at + 1) 0 ∷ []

abbrev pub four_at : List ℕ → ℕ → List ℕ
four_at xs at = get_or xs at 0 ∷ get_or xs (at + 1) 0 ∷ get_or xs (at + 2) 0 ∷ get_or xs (at + 3) 0 ∷ []

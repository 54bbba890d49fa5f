-- A list is cut into parts of one length, from its front. Assumes nothing.
use Rattle.std.specs.Prelude.{ℕ, zero, suc, List, [], ◌∷◌, take, drop}

-- `chunks w n items` has n parts of w items each; where the items run out, parts are shorter or empty.
unfoldable pub chunks : {A : Type 0} → ℕ → ℕ → List A → List (List A)
chunks w zero items = []
chunks w (suc n) items = take w items ∷ chunks w n (drop w items)

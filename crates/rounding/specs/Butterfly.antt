-- A stage of butterflies with step h is defined entry by entry, over any sum and difference: of floats, of exact numbers, and of the sizes that bound them.
-- Assumes nothing.
use Rattle.std.specs.Prelude.{ℕ, zero, suc, ◌+◌, ◌-◌, ◌/◌, ◌%◌, cond, List, [], ◌∷◌, map, eqb, length, get_or}

-- These are the numbers from n on, `count` of them.
unfoldable pub from : ℕ → ℕ → List ℕ
from n zero = []
from n (suc count) = n ∷ from (suc n) count

-- Where i / h is even, entry i becomes x[i] + x[i + h], and else x[i - h] - x[i]; d stands for what lies outside the list.
unfoldable pub entry : {A : Type 0} → (A → A → A) → (A → A → A) → A → ℕ → List A → ℕ → A
entry plus less d h xs i = cond (eqb (i / h % 2) 0) (plus (get_or xs i d) (get_or xs (i + h) d)) (less (get_or xs (i - h) d) (get_or xs i d))

-- One stage does so with every entry.
unfoldable pub stage : {A : Type 0} → (A → A → A) → (A → A → A) → A → ℕ → List A → List A
stage plus less d h xs = map (λ i. entry plus less d h xs i) (from 0 (length xs))

-- 'butterflies with step 1, 2, 4 and on' (document 01): these are n stages, with steps h, 2 h, 4 h and on.
unfoldable pub stages : {A : Type 0} → (A → A → A) → (A → A → A) → A → ℕ → ℕ → List A → List A
stages plus less d zero h xs = xs
stages plus less d (suc n) h xs = stages plus less d n (h + h) (stage plus less d h xs)

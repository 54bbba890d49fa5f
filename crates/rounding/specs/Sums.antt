-- Sums run in index order: of floats, each step rounded; of exact numbers; of naturals. A dot product is the sum of its products. Assumes nothing.
use Rattle.std.specs.Prelude.{ℕ, ◌+◌, ◌*◌, Bool, List, [], ◌∷◌, map, Float}
use Rattle.std.specs.Float.{binary32}
use Rattle.std.specs.Float.Ieee.{add, mul}
use Rattle.rounding.specs.Signed.{Diff, nought, turned, ◌⊞◌, ◌⊠◌}
use Rattle.float.specs.Constants.{pos_zero}
use Rattle.float.specs.Units.{mag}

-- 'Sums run in index order from +0.0' (document 01): this is the running sum of a list, from `acc`, the sum so far.
unfoldable pub running : Float → List Float → Float
running acc [] = acc
running acc (v ∷ vs) = running (add binary32 acc v) vs

abbrev pub total : List Float → Float
total vs = running pos_zero vs

-- These are the products of two lists, entry by entry, as far as the shorter one goes.
unfoldable pub products : List Float → List Float → List Float
products [] cs = []
products (v ∷ vs) [] = []
products (v ∷ vs) (c ∷ cs) = mul binary32 v c ∷ products vs cs

abbrev pub dot : List Float → List Float → Float
dot vs cs = total (products vs cs)

-- These three are the sum, the products and the dot product of exact numbers.
unfoldable pub exact_total : List Diff → Diff
exact_total [] = nought
exact_total (x ∷ xs) = x ⊞ exact_total xs

unfoldable pub exact_products : List Diff → List Diff → List Diff
exact_products [] ys = []
exact_products (x ∷ xs) [] = []
exact_products (x ∷ xs) (y ∷ ys) = x ⊠ y ∷ exact_products xs ys

abbrev pub exact_dot : List Diff → List Diff → Diff
exact_dot xs ys = exact_total (exact_products xs ys)

-- Each number is kept, or becomes its opposite where its sign is true: these are the products with 1 and -1, as far as the shorter list goes.
unfoldable pub turned_each : List Bool → List Diff → List Diff
turned_each [] xs = []
turned_each (s ∷ ss) [] = []
turned_each (s ∷ ss) (x ∷ xs) = turned s x ∷ turned_each ss xs

unfoldable pub sum : List ℕ → ℕ
sum [] = 0
sum (n ∷ ns) = n + sum ns

-- This is the sum of the sizes of floats, in units of 2 ^ -149.
unfoldable pub absolute_sum : List Float → ℕ
absolute_sum vs = sum (map mag vs)

-- Each of the numbers is multiplied by the size of its float, in units of 2 ^ -149.
unfoldable pub weighted : List Float → List ℕ → List ℕ
weighted [] ns = []
weighted (c ∷ cs) [] = []
weighted (c ∷ cs) (n ∷ ns) = mag c * n ∷ weighted cs ns

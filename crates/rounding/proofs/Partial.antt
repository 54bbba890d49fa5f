-- No hidden infinity in a sum of any length: a running sum that has become infinite or NaN stays so. A finite dot product therefore has only finite
-- factors. Assumes nothing.
use Prim.Native.Nat.{ℕ, zero, suc, ◌<◌}
use native.Mathlib.Nat.{le_of_suc-le-suc, not-suc-le-zero}
use mathlib.Core.List.{List, [], ◌∷◌}
use lib.Dec.{T}
use lib.ListN.{length, get_or}
use lib.Ieee.{Float, nan, binary32, add, mul}
use lib.Ieee.Scale.{finite}
use Rattle.rounding.specs.Sums.{running, products}
use Rattle.rounding.proofs.Finite.{add-finite, mul-finite}

-- a running sum that ends finite was finite where it began
pub running-start : (acc : Float) (vs : List Float) → T (finite (running acc vs)) → T (finite acc)
unfolding running
running-start acc [] t = t
running-start acc (v ∷ vs) t = (add-finite binary32 acc v (running-start (add binary32 acc v) vs t)).0

-- both factors of each term of a dot product
pub dot-finite : (acc : Float) (vs cs : List Float) → T (finite (running acc (products vs cs))) → (i : ℕ) → i < length vs → i < length cs
    → T (finite (get_or vs i nan)) × T (finite (get_or cs i nan))
unfolding running products
dot-finite acc [] cs t i h g = absurd (not-suc-le-zero h)
dot-finite acc (v ∷ vs) [] t i h g = absurd (not-suc-le-zero g)
dot-finite acc (v ∷ vs) (c ∷ cs) t zero h g = mul-finite binary32 v c (add-finite binary32 acc (mul binary32 v c) (running-start (add binary32 acc (mul binary32 v c)) (products vs cs) t)).1
dot-finite acc (v ∷ vs) (c ∷ cs) t (suc i) h g = dot-finite (add binary32 acc (mul binary32 v c)) vs cs t i (le_of_suc-le-suc h) (le_of_suc-le-suc g)

-- What stands at an index of a list, whatever the default, and at an index of a list of products. Assumes nothing.
use Prim.Native.Nat.{ℕ, zero, suc, ◌<◌}
use mathlib.Core.Path.{◌≡◌, refl, ap}
use mathlib.Core.List.{List, [], ◌∷◌}
use native.Mathlib.Nat.{suc_inj, not-suc-le-zero, le_of_suc-le-suc}
use lib.ListN.{length, get_or}
use lib.Ieee.{Float, binary32, mul}
use Rattle.rounding.specs.Sums.{products}

-- within the list the default does not matter
pub get_d_any : {A : Type 0} (xs : List A) (d e : A) (i : ℕ) → i < length xs → get_or xs i d ≡ get_or xs i e
get_d_any [] d e i l = absurd (not-suc-le-zero l)
get_d_any (x ∷ xs) d e zero l = refl
get_d_any (x ∷ xs) d e (suc i) l = get_d_any xs d e i (le_of_suc-le-suc l)

pub length-products : (xs ys : List Float) → length ys ≡ length xs → length (products xs ys) ≡ length xs
unfolding products
length-products [] ys e = refl
length-products (x ∷ xs) [] e = e
length-products (x ∷ xs) (y ∷ ys) e = ap suc (length-products xs ys (suc_inj e))

pub get_or-products : (xs ys : List Float) (d : Float) (i : ℕ) → i < length xs → i < length ys → get_or (products xs ys) i d ≡ mul binary32 (get_or xs i d) (get_or ys i d)
unfolding products
get_or-products [] ys d i h g = absurd (not-suc-le-zero h)
get_or-products (x ∷ xs) [] d i h g = absurd (not-suc-le-zero g)
get_or-products (x ∷ xs) (y ∷ ys) d zero h g = refl
get_or-products (x ∷ xs) (y ∷ ys) d (suc i) h g = get_or-products xs ys d i (le_of_suc-le-suc h) (le_of_suc-le-suc g)

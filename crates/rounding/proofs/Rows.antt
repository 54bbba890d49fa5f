-- Projections on the rows of a matrix: how many there are, what stands at each index, and how far each lies from its exact value, which is n + 1 roundings
-- and n units for a row of n entries. Assumes nothing.
use Prim.Native.Nat.{ℕ, zero, suc, ◌+◌, ◌*◌, ◌^◌, ◌≤◌, ◌<◌, zero-le, suc-le-suc}
use mathlib.Core.Path.{◌≡◌, refl, sym, ap, ◌∙◌}
use mathlib.Core.List.{List, [], ◌∷◌, map}
use native.Mathlib.Nat.{le_refl, mul_comm, mul-le-mul_right}
use native.Mathlib.Omega.{arith}
use lib.ListN.{length, get_or, take, drop, replicate}
use lib.Ieee.{Float, nan, binary32, mul}
use Rattle.lists.specs.Chunks.{chunks}
use Rattle.lists.proofs.Chunks.{chunks-get_or, length-chunks}
use Rattle.rounding.specs.Value.{val}
use Rattle.float.specs.Constants.{pos_zero}
use Rattle.float.specs.Units.{unit, mag}
use Rattle.rounding.proofs.Close.{Close, AllFit, AllClose, none, next}
use Rattle.rounding.specs.Sums.{running, products, dot, exact_dot, sum, weighted}
use Rattle.rounding.specs.Rows.{projected, exact_projected, projected_sizes}
use Rattle.rounding.proofs.Calculus.{close-weaken}
use Rattle.rounding.proofs.Folds.{close-dot-self}

-- ---- what a projection is

pub length-projected : (n m : ℕ) (matrix query : List Float) → length (projected n m matrix query) ≡ m
unfolding projected
length-projected n m matrix query = length-chunks (λ row. dot row query) n m matrix

products-take : (vs cs : List Float) → products (take (length cs) vs) cs ≡ products vs cs
unfolding products
products-take [] [] = refl
products-take [] (c ∷ cs) = refl
products-take (v ∷ vs) [] = refl
products-take (v ∷ vs) (c ∷ cs) = ap (λ (ps : List Float). mul binary32 v c ∷ ps) (products-take vs cs)

-- what follows the second list's length does not count
dot-take : (n : ℕ) (vs cs : List Float) → length cs ≡ n → dot (take n vs) cs ≡ dot vs cs
dot-take n vs cs e = ap (λ (k : ℕ). dot (take k vs) cs) (sym e) ∙ ap (running pos_zero) (products-take vs cs)

-- the projection on row j, which starts at j × n
pub projected-row : (n m : ℕ) (matrix query : List Float) (j : ℕ) → length query ≡ n → j < m → get_or (projected n m matrix query) j nan ≡ dot (drop (j * n) matrix) query
unfolding projected
projected-row n m matrix query j e l =
    chunks-get_or (λ row. dot row query) n m j matrix nan l
    ∙ ap (λ (k : ℕ). dot (take n (drop k matrix)) query) (mul_comm n j)
    ∙ dot-take n (drop (j * n) matrix) query e

-- ---- how far it lies from the exact value

all-fit-take : (n : ℕ) (vs : List Float) → AllFit vs → AllFit (take n vs)
all-fit-take zero vs f = tt
all-fit-take (suc n) [] f = tt
all-fit-take (suc n) (v ∷ vs) f = (f.0, all-fit-take n vs f.1)

all-fit-drop : (n : ℕ) (vs : List Float) → AllFit vs → AllFit (drop n vs)
all-fit-drop zero vs f = f
all-fit-drop (suc n) [] f = tt
all-fit-drop (suc n) (v ∷ vs) f = all-fit-drop n vs f.1

take-most : {A : Type 0} (n : ℕ) (vs : List A) → length (take n vs) ≤ n
take-most zero vs = zero-le
take-most (suc n) [] = zero-le
take-most (suc n) (v ∷ vs) = suc-le-suc (take-most n vs)

-- one row
pub close_row : (n : ℕ) (row query : List Float) → length row ≤ n → AllFit row → AllFit query → n + 1 ≤ 2 ^ 23
    → Close unit (n + 1) (n * unit) (sum (weighted query (map mag row))) (dot row query) (exact_dot (map val row) (map val query))
close_row n row query l f g L = close-weaken (omega arith) (mul-le-mul_right unit l) (le_refl _) (close-dot-self row query f g (omega arith))

-- every row
pub close-projected : (n m : ℕ) (matrix query : List Float) → AllFit matrix → AllFit query → n + 1 ≤ 2 ^ 23
    → AllClose unit (n + 1) (replicate m (n * unit)) (projected_sizes n m matrix query) (projected n m matrix query) (exact_projected n m matrix query)
unfolding projected_sizes projected exact_projected chunks
close-projected n zero matrix query f g L = none
close-projected n (suc m) matrix query f g L =
    next (close_row n (take n matrix) query (take-most n matrix) (all-fit-take n matrix f) g L) (close-projected n m (drop n matrix) query (all-fit-drop n matrix f) g L)

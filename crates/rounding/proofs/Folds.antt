-- Running sums and dot products of any length. The sum of terms that are close with k is close with k + length, its r and its a the sums of theirs;
-- a dot product adds one more rounding and, for each product, a unit. Assumes nothing.
use mathlib.Core.Path.{◌≡◌, refl, ap, subst}
use Prim.Native.Nat.{ℕ, zero, suc, ◌+◌, ◌*◌, ◌^◌, ◌≤◌, ◌<◌, zero-le, suc-le-suc}
use native.Mathlib.Nat.{le_refl, one-mul, mul-le-mul_right}
use native.Mathlib.Omega.{arith}
use mathlib.Core.Bool.{Bool}
use mathlib.Core.List.{List, [], ◌∷◌, map}
use lib.Dec.{T}
use lib.ListN.{length, get_or}
use lib.Ieee.{Float, binary32, mul, fits}
use Rattle.rounding.specs.Signed.{Diff, nought, ◌⊞◌, ◌⊠◌}
use Rattle.rounding.specs.Value.{val}
use Rattle.float.specs.Constants.{one}
use Rattle.float.specs.Units.{unit, mag}
use Rattle.rounding.proofs.Close.{Close, AllFit, AllClose, none, next}
use Rattle.rounding.specs.Sums.{running, total, products, dot, exact_total, exact_products, exact_dot, turned_each, sum, weighted}
use Rattle.rounding.proofs.Totals.{length-weighted, sum-raised, weighted-none}
use Rattle.rounding.proofs.Calculus.{close-zero, close-self, close-weaken, close-same, close-add, close-mul, close-sign}

-- ---- running sums
close-running : {s k j r a : ℕ} {acc : Float} {x : Diff} {rs bs : List ℕ} {vs : List Float} {xs : List Diff} → k ≤ j → j + length vs ≤ 2 ^ 23
    → Close s j r a acc x → AllClose s k rs bs vs xs → Close s (j + length vs) (r + sum rs) (a + sum bs) (running acc vs) (x ⊞ exact_total xs)
unfolding running exact_total sum
close-running {j} {r} {a} J L h none = close-same (omega arith) (close-weaken (omega arith) (omega arith) (omega arith) h)
close-running {j} {r} {a} J L h (next g all) =
    close-same (omega arith)
    (close-weaken (omega arith) (omega arith) (omega arith)
    (close-running {j = j + 1} (omega arith) (omega arith) (close-add (omega arith) h (close-weaken J (le_refl _) (le_refl _) g)) all))

-- from +0.0
pub close-total : {s k : ℕ} {rs bs : List ℕ} {vs : List Float} {xs : List Diff} → k + length vs ≤ 2 ^ 23 → AllClose s k rs bs vs xs
    → Close s (k + length vs) (sum rs) (sum bs) (total vs) (exact_total xs)
close-total {s} {k} {rs} {bs} {vs} {xs} L all =
    close-same (omega arith)
    (close-weaken {k = k + length vs} {r = 0 + sum rs} {a = 0 + sum bs} (le_refl _) (omega arith) (omega arith)
    (close-running (le_refl k) L (close-zero s k) all))

-- ---- products, entry by entry
close-products : {s k : ℕ} {rs bs : List ℕ} {vs : List Float} {xs : List Diff} (cs : List Float) → AllFit cs → k ≤ 2 ^ 23 → AllClose s k rs bs vs xs
    → AllClose (s * unit) (k + 1) (map (λ (n : ℕ). n + s * unit) (weighted cs rs)) (weighted cs bs) (products vs cs) (exact_products xs (map val cs))
unfolding weighted products exact_products
close-products [] f K none = none
close-products (c ∷ cs) f K none = none
close-products [] f K (next h all) = none
close-products (c ∷ cs) f K (next h all) = next (close-mul c f.0 K h) (close-products cs f.1 K all)

length-products-most : (vs cs : List Float) → length (products vs cs) ≤ length vs
unfolding products
length-products-most [] cs = le_refl 0
length-products-most (v ∷ vs) [] = zero-le
length-products-most (v ∷ vs) (c ∷ cs) = suc-le-suc (length-products-most vs cs)

-- the lists have one length
pub all-close-errors : {s k : ℕ} {rs bs : List ℕ} {vs : List Float} {xs : List Diff} → AllClose s k rs bs vs xs → length rs ≡ length vs
all-close-errors none = refl
all-close-errors (next h all) = ap suc (all-close-errors all)

pub all-close-sizes : {s k : ℕ} {rs bs : List ℕ} {vs : List Float} {xs : List Diff} → AllClose s k rs bs vs xs → length bs ≡ length vs
all-close-sizes none = refl
all-close-sizes (next h all) = ap suc (all-close-sizes all)

pub all-close-numbers : {s k : ℕ} {rs bs : List ℕ} {vs : List Float} {xs : List Diff} → AllClose s k rs bs vs xs → length xs ≡ length vs
all-close-numbers none = refl
all-close-numbers (next h all) = ap suc (all-close-numbers all)

-- ---- dot products: each product is rounded, and then the running sum from +0.0
close-dot : {s k : ℕ} {rs bs : List ℕ} {vs : List Float} {xs : List Diff} (cs : List Float) → AllFit cs → k + 1 + length vs ≤ 2 ^ 23 → AllClose s k rs bs vs xs
    → Close (s * unit) (k + 1 + length vs) (sum (weighted cs rs) + length vs * (s * unit)) (sum (weighted cs bs)) (dot vs cs) (exact_dot xs (map val cs))
close-dot {s} {k} {rs} {bs} {vs} {xs} cs f L all =
    let p = length-products-most vs cs in
    let w = length-weighted cs rs in
    let e = all-close-errors all in
    let m : length (weighted cs rs) * (s * unit) ≤ length vs * (s * unit) = mul-le-mul_right (s * unit) (omega arith) in
    close-weaken (omega arith) (omega (arith, sum-raised (s * unit) (weighted cs rs))) (le_refl _) (close-total (omega arith) (close-products cs f (omega arith) all))

-- ---- floats themselves
pub all-close-self : (k : ℕ) (vs : List Float) → AllFit vs → AllClose 1 k (map (λ (v : Float). 0) vs) (map mag vs) vs (map val vs)
all-close-self k [] f = none
all-close-self k (v ∷ vs) f = next (close-self k v f.0) (all-close-self k vs f.1)

-- the dot product of two lists of floats
pub close-dot-self : (vs cs : List Float) → AllFit vs → AllFit cs → 1 + length vs ≤ 2 ^ 23
    → Close unit (1 + length vs) (length vs * unit) (sum (weighted cs (map mag vs))) (dot vs cs) (exact_dot (map val vs) (map val cs))
close-dot-self vs cs f g L =
    subst (λ (s : ℕ). Close s (1 + length vs) (length vs * unit) (sum (weighted cs (map mag vs))) (dot vs cs) (exact_dot (map val vs) (map val cs))) (one-mul unit)
    (close-weaken (le_refl _) (omega (arith, weighted-none cs vs)) (le_refl _) (close-dot cs g L (all-close-self 0 vs f)))

-- ---- entry by entry, by the index; d stands for what lies outside the list
pub all-close-at : {s k : ℕ} {rs bs : List ℕ} {vs : List Float} {xs : List Diff} (d : Float) → Close s k 0 0 d nought → AllClose s k rs bs vs xs → (i : ℕ)
    → Close s k (get_or rs i 0) (get_or bs i 0) (get_or vs i d) (get_or xs i nought)
all-close-at d z none i = z
all-close-at d z (next h all) zero = h
all-close-at d z (next h all) (suc i) = all-close-at d z all i

pub all-fit-from : (vs : List Float) (d : Float) → ((i : ℕ) → i < length vs → T (fits binary32 (get_or vs i d))) → AllFit vs
all-fit-from [] d h = tt
all-fit-from (v ∷ vs) d h = (h 0 (suc-le-suc zero-le), all-fit-from vs d (λ i l. h (suc i) (suc-le-suc l)))

pub all-fit_at : (vs : List Float) (d : Float) → T (fits binary32 d) → AllFit vs → (i : ℕ) → T (fits binary32 (get_or vs i d))
all-fit_at [] d z f i = z
all-fit_at (v ∷ vs) d z f zero = f.0
all-fit_at (v ∷ vs) d z f (suc i) = all-fit_at vs d z f.1 i

pub all-close-weaken : {s k k' : ℕ} {rs bs : List ℕ} {vs : List Float} {xs : List Diff} → k ≤ k' → AllClose s k rs bs vs xs → AllClose s k' rs bs vs xs
all-close-weaken K none = none
all-close-weaken K (next h all) = next (close-weaken K (le_refl _) (le_refl _) h) (all-close-weaken K all)

-- ---- each entry times one float, and each times its own sign
pub close-scaled : {s k : ℕ} {rs bs : List ℕ} {vs : List Float} {xs : List Diff} (c : Float) → T (fits binary32 c) → k ≤ 2 ^ 23 → AllClose s k rs bs vs xs
    → AllClose (s * unit) (k + 1) (map (λ (r : ℕ). mag c * r + s * unit) rs) (map (λ (b : ℕ). mag c * b) bs) (map (λ (v : Float). mul binary32 v c) vs) (map (λ (x : Diff). x ⊠ val c) xs)
close-scaled c f K none = none
close-scaled c f K (next h all) = next (close-mul c f K h) (close-scaled c f K all)

pub close-signs : {s k : ℕ} {rs bs : List ℕ} {vs : List Float} {xs : List Diff} (ss : List Bool) → length ss ≡ length vs → AllClose s k rs bs vs xs
    → AllClose s k rs bs (products vs (map one ss)) (turned_each ss xs)
unfolding products turned_each
close-signs [] e none = none
close-signs (c ∷ ss) e none = none
close-signs [] e (next h all) = absurd (omega arith)
close-signs (c ∷ ss) e (next h all) = next (close-sign c h) (close-signs ss (omega arith) all)

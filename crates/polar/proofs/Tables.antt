-- Sums over start, start + 1, .. so many: how many terms there are, terms that are close one by one, and a bound on the sum from one on each term.
-- Assumes nothing.
use Rattle.std.proofs.Common.{◌≡◌, ℕ, zero, suc, ◌+◌, ◌*◌, ◌<◌, ◌≤◌, List, [], ◌∷◌, map, length, subst, suc-le-suc, zero-le, add-zero, arith}
use lib.Ieee.{Float}
use Rattle.rounding.specs.Signed.{Diff}
use Rattle.float.specs.Units.{mag}
use Rattle.rounding.proofs.Close.{Close, AllClose, none, next}
use Rattle.rounding.specs.Butterfly.{from}
use Rattle.rounding.specs.Sums.{sum}
use Rattle.polar.specs.Polar.{value_at}

pub table-close : {s k : ℕ} (r a : ℕ → ℕ) (v : ℕ → Float) (x : ℕ → Diff) → ((i : ℕ) → Close s k (r i) (a i) (v i) (x i)) → (is : List ℕ)
    → AllClose s k (map r is) (map a is) (map v is) (map x is)
table-close r a v x h [] = none
table-close r a v x h (i ∷ is) = next (h i) (table-close r a v x h is)

-- each term is b times another
pub table-times : (f g : ℕ → ℕ) (b start count : ℕ) → ((i : ℕ) → i < start + count → f i ≡ b * g i) → sum (map f (from start count)) ≡ b * sum (map g (from start count))
unfolding from sum
table-times f g b start zero h = omega arith
table-times f g b start (suc count) h = omega (arith, h start (omega arith), table-times f g b (suc start) count (λ i l. h i (omega arith)))

-- each term is at most c times the size of its float, and w more
pub table-most : (f : ℕ → ℕ) (c w start : ℕ) (vs : List Float) → ((i : ℕ) → i < length vs → f (start + i) ≤ c * mag (value_at vs i) + w)
    → sum (map f (from start (length vs))) ≤ c * sum (map mag vs) + length vs * w
unfolding from sum
table-most f c w start [] h = zero-le
table-most f c w start (v ∷ vs) h =
    let here : f start ≤ c * mag v + w = rw add-zero at (h 0 (suc-le-suc zero-le)) in
    let rest = table-most f c w (suc start) vs (λ i l. subst (λ (n : ℕ). f n ≤ c * mag (value_at vs i) + w) (omega arith) (h (suc i) (suc-le-suc l))) in
    omega (arith, here, rest)

-- Butterflies on lists of any length: a stage of floats keeps close to the stage of exact numbers, at one rounding more, with the r's and the a's under the same butterflies with +. Assumes nothing.
use mathlib.Core.Path.{◌≡◌, refl, sym, ap, ◌∙◌}
use Prim.Native.Nat.{ℕ, zero, suc, ◌+◌, ◌-◌, ◌/◌, ◌%◌, ◌^◌, ◌≤◌, ◌<◌}
use native.Mathlib.Nat.{add-zero, zero-add, add-suc, suc-add, le_of_suc-le-suc, not-suc-le-zero}
use native.Mathlib.Omega.{arith}
use mathlib.Core.Bool.{Bool, true, false, cond}
use mathlib.Core.List.{List, map}
use lib.Dec.{eqb}
use lib.ListN.{length, get_or}
use lib.Ieee.{Float, binary32, add, sub}
use Rattle.rounding.specs.Signed.{Diff, nought, ◌⊞◌, ◌⊟◌}
use Rattle.float.specs.Constants.{pos_zero}
use Rattle.rounding.proofs.Close.{Close, AllClose, none, next}
use Rattle.rounding.specs.Butterfly.{from, entry, stage, stages}
use Rattle.rounding.proofs.Calculus.{close-zero, close-add, close-sub}
use Rattle.rounding.proofs.Folds.{all-close-at, all-close-errors, all-close-sizes, all-close-numbers, all-close-weaken}

-- ---- a list made by its indices
pub length-tabled : {A : Type 0} (f : ℕ → A) (n count : ℕ) → length (map f (from n count)) ≡ count
unfolding from
length-tabled f n zero = refl
length-tabled f n (suc count) = ap suc (length-tabled f (suc n) count)

pub tabled-at : {A : Type 0} (f : ℕ → A) (n count : ℕ) (d : A) (i : ℕ) → i < count → get_or (map f (from n count)) i d ≡ f (n + i)
unfolding from
tabled-at f n zero d i h = absurd (not-suc-le-zero h)
tabled-at f n (suc count) d zero h = ap f (sym (add-zero n))
tabled-at f n (suc count) d (suc i) h = tabled-at f (suc n) count d i (le_of_suc-le-suc h) ∙ ap f (suc-add n i ∙ sym (add-suc n i))

module _ {A : Type 0} (plus less : A → A → A) (d : A) (h : ℕ) (xs : List A) where
  pub length-stage : length (stage plus less d h xs) ≡ length xs
  unfolding stage
  length-stage = length-tabled (λ (i : ℕ). entry plus less d h xs i) 0 (length xs)

  pub stage_at : (i : ℕ) → i < length xs → get_or (stage plus less d h xs) i d ≡ entry plus less d h xs i
  unfolding stage
  stage_at i l = tabled-at (λ (j : ℕ). entry plus less d h xs j) 0 (length xs) d i l ∙ ap (λ (j : ℕ). entry plus less d h xs j) (zero-add i)

pub length-stages : {A : Type 0} (plus less : A → A → A) (d : A) (n h : ℕ) (xs : List A) → length (stages plus less d n h xs) ≡ length xs
unfolding stages
length-stages plus less d zero h xs = refl
length-stages plus less d (suc n) h xs = length-stages plus less d n (h + h) (stage plus less d h xs) ∙ length-stage plus less d h xs

-- ---- the error of a stage
module _ {s k : ℕ} {rs bs : List ℕ} {vs : List Float} {xs : List Diff} (K : k ≤ 2 ^ 23) (all : AllClose s k rs bs vs xs) (h : ℕ) where
  entry-close : (i : ℕ) → Close s (k + 1) (entry ◌+◌ ◌+◌ 0 h rs i) (entry ◌+◌ ◌+◌ 0 h bs i) (entry (add binary32) (sub binary32) pos_zero h vs i) (entry ◌⊞◌ ◌⊟◌ nought h xs i)
  unfolding entry
  entry-close i = go (eqb (i / h % 2) 0)
    where
      at : (j : ℕ) → Close s k (get_or rs j 0) (get_or bs j 0) (get_or vs j pos_zero) (get_or xs j nought)
      at j = all-close-at pos_zero (close-zero s k) all j

      go : (b : Bool)
          → Close s (k + 1) (cond b (get_or rs i 0 + get_or rs (i + h) 0) (get_or rs (i - h) 0 + get_or rs i 0)) (cond b (get_or bs i 0 + get_or bs (i + h) 0) (get_or bs (i - h) 0 + get_or bs i 0))
          (cond b (add binary32 (get_or vs i pos_zero) (get_or vs (i + h) pos_zero)) (sub binary32 (get_or vs (i - h) pos_zero) (get_or vs i pos_zero)))
          (cond b (get_or xs i nought ⊞ get_or xs (i + h) nought) (get_or xs (i - h) nought ⊟ get_or xs i nought))
      go true = close-add K (at i) (at (i + h))
      go false = close-sub K (at (i - h)) (at i)

tabled-close : {s k : ℕ} (f g : ℕ → ℕ) (v : ℕ → Float) (x : ℕ → Diff) → ((i : ℕ) → Close s k (f i) (g i) (v i) (x i)) → (n count : ℕ)
    → AllClose s k (map f (from n count)) (map g (from n count)) (map v (from n count)) (map x (from n count))
unfolding from
tabled-close f g v x each n zero = none
tabled-close f g v x each n (suc count) = next (each n) (tabled-close f g v x each (suc n) count)

close-stage : {s k : ℕ} {rs bs : List ℕ} {vs : List Float} {xs : List Diff} (h : ℕ) → k ≤ 2 ^ 23 → AllClose s k rs bs vs xs
    → AllClose s (k + 1) (stage ◌+◌ ◌+◌ 0 h rs) (stage ◌+◌ ◌+◌ 0 h bs) (stage (add binary32) (sub binary32) pos_zero h vs) (stage ◌⊞◌ ◌⊟◌ nought h xs)
unfolding stage
close-stage {s} {k} {rs} {bs} {vs} {xs} h K all =
    rw (all-close-errors all, all-close-sizes all, all-close-numbers all)
    (tabled-close (λ (i : ℕ). entry ◌+◌ ◌+◌ 0 h rs i) (λ (i : ℕ). entry ◌+◌ ◌+◌ 0 h bs i) (λ (i : ℕ). entry (add binary32) (sub binary32) pos_zero h vs i)
    (λ (i : ℕ). entry ◌⊞◌ ◌⊟◌ nought h xs i) (entry-close K all h) 0 (length vs))

pub close-stages : {s k : ℕ} {rs bs : List ℕ} {vs : List Float} {xs : List Diff} (n h : ℕ) → k + n ≤ 2 ^ 23 → AllClose s k rs bs vs xs
    → AllClose s (k + n) (stages ◌+◌ ◌+◌ 0 n h rs) (stages ◌+◌ ◌+◌ 0 n h bs) (stages (add binary32) (sub binary32) pos_zero n h vs) (stages ◌⊞◌ ◌⊟◌ nought n h xs)
unfolding stages
close-stages zero h K all = all-close-weaken (omega arith) all
close-stages {k = k} (suc n) h K all = all-close-weaken (omega arith) (close-stages {k = k + 1} n (h + h) (omega arith) (close-stage h (omega arith) all))

-- The butterflies with + alone: after the steps 1, 2, 4 and on, up to half the length, every entry is the sum of the whole list.
-- So one bound, the sum of all absolute values, serves for every entry of a transform. Assumes nothing.
use mathlib.Core.Path.{◌≡◌, refl, sym, ap, ◌∙◌, subst}
use mathlib.Core.Logic.{◌≢◌}
use Prim.Native.Nat.{ℕ, zero, suc, ◌+◌, ◌-◌, ◌*◌, ◌/◌, ◌%◌, ◌^◌, ◌≤◌, ◌<◌}
use native.Mathlib.Nat.{le_trans, le_of_eq, mul_comm, mul-one, one-mul, pow-suc, add-div_right, div-eq-sub-div, div-div-eq-div-mul, div-one, div-eq_of_lt, le-div_iff_mul-le, mul-le-mul_right, zero-mul, add-zero, zero-lt-suc}
use native.Mathlib.Omega.{arith}
use mathlib.Core.Bool.{Bool, true, false, not, cond}
use mathlib.Core.List.{List, [], ◌∷◌}
use lib.Dec.{T, eqb, eqb→eq, T_not, ltb, ltb→lt, nltb→le}
use lib.ListN.{length, get_or, take, drop, replicate, length-replicate, get_or-replicate, drop_of_length-le, get_or-eq_default}
use lib.Ieee.{Float, binary32, add, sub}
use lib.Ieee.Fits.{eq→eqb}
use lib.Seq.{take-add, take_all, drop-drop, take-nil, drop-nil, ext_get_or}
use Rattle.rounding.specs.Signed.{Diff, nought, ◌⊞◌, ◌⊟◌}
use Rattle.float.specs.Constants.{pos_zero}
use Rattle.rounding.specs.Sums.{sum}
use Rattle.rounding.proofs.Close.{AllClose}
use Rattle.rounding.specs.Butterfly.{entry, stage, stages}
use Rattle.rounding.proofs.Butterflies.{length-stage, stage_at, length-stages, close-stages}
use Rattle.rounding.proofs.Folds.{all-close-errors, all-close-sizes}
use Rattle.rounding.proofs.Totals.{sum-append}

-- the sum of the block of h entries that starts at m, and two blocks side by side
block-joins : (h m : ℕ) (bs : List ℕ) → sum (take h (drop m bs)) + sum (take h (drop (m + h) bs)) ≡ sum (take (h + h) (drop m bs))
block-joins h m bs = sym (ap sum (take-add h h (drop m bs)) ∙ sum-append (take h (drop m bs)) (take h (drop h (drop m bs))) ∙ ap (λ (l : List ℕ). sum (take h (drop m bs)) + sum (take h l)) (drop-drop h m bs))

-- each entry of cs is the sum of the block of h entries of bs that it lies in
abbrev Blocks : ℕ → List ℕ → List ℕ → Type 0
Blocks h bs cs = (i : ℕ) → get_or cs i 0 ≡ sum (take h (drop (i / h * h) bs))

double : (h : ℕ) → h * 2 ≡ h + h
double h = omega arith

-- where the block of twice the size starts
start-even : (i h : ℕ) → i / h % 2 ≡ 0 → i / h * h ≡ i / (h + h) * (h + h)
start-even i h e =
    let d : i / h / 2 ≡ i / (h + h) = div-div-eq-div-mul i h 2 ∙ ap (λ (z : ℕ). i / z) (double h) in
    go (i / h) (i / (h + h)) e d
  where
    go : (q p : ℕ) → q % 2 ≡ 0 → q / 2 ≡ p → q * h ≡ p * (h + h)
    go q p e d = let f : q ≡ 2 * p = omega arith in omega (arith, ap (λ (z : ℕ). z * h) f)

start-odd : (i h p : ℕ) → i / h % 2 ≡ 1 → i / h ≡ p + 1 → p * h ≡ i / (h + h) * (h + h)
start-odd i h p e r =
    let d : i / h / 2 ≡ i / (h + h) = div-div-eq-div-mul i h 2 ∙ ap (λ (z : ℕ). i / z) (double h) in
    go (i / h) (i / (h + h)) e d r
  where
    go : (q n : ℕ) → q % 2 ≡ 1 → q / 2 ≡ n → q ≡ p + 1 → p * h ≡ n * (h + h)
    go q n e d r = let f : p ≡ 2 * n = omega arith in omega (arith, ap (λ (z : ℕ). z * h) f)

next_start : (q h : ℕ) → (q + 1) * h ≡ q * h + h
next_start q h = omega arith

odd-of : (n : ℕ) → T (not (eqb (n % 2) 0)) → n % 2 ≡ 1
odd-of n t = let ne : n % 2 ≢ 0 = λ e. T_not (eqb (n % 2) 0) t (eq→eqb e) in omega arith

module _ (h : ℕ) (H : 0 < h) (bs cs : List ℕ) (all : Blocks h bs cs) where
  joined-even : (i : ℕ) → i / h % 2 ≡ 0 → get_or cs i 0 + get_or cs (i + h) 0 ≡ sum (take (h + h) (drop (i / (h + h) * (h + h)) bs))
  joined-even i e =
      let m = i / h * h in
      let a : get_or cs (i + h) 0 ≡ sum (take h (drop (m + h) bs)) =
      all (i + h) ∙ ap (λ (z : ℕ). sum (take h (drop z bs))) (ap (λ (z : ℕ). z * h) (add-div_right i H) ∙ next_start (i / h) h) in
      ap (λ (z : ℕ). z + get_or cs (i + h) 0) (all i) ∙ ap (λ (z : ℕ). sum (take h (drop m bs)) + z) a ∙ block-joins h m bs ∙ ap (λ (z : ℕ). sum (take (h + h) (drop z bs))) (start-even i h e)

  reached : (i : ℕ) → i / h % 2 ≡ 1 → h ≤ i
  reached i e = le_trans (le_of_eq (sym (one-mul h))) ((le-div_iff_mul-le H).0 (omega arith))

  joined-odd : (i : ℕ) → i / h % 2 ≡ 1 → get_or cs (i - h) 0 + get_or cs i 0 ≡ sum (take (h + h) (drop (i / (h + h) * (h + h)) bs))
  joined-odd i e =
      let p = (i - h) / h in
      let q : i / h ≡ p + 1 = div-eq-sub-div H (reached i e) in
      let a : get_or cs i 0 ≡ sum (take h (drop (p * h + h) bs)) = all i ∙ ap (λ (z : ℕ). sum (take h (drop z bs))) (ap (λ (z : ℕ). z * h) q ∙ next_start p h) in
      ap (λ (z : ℕ). z + get_or cs i 0) (all (i - h)) ∙ ap (λ (z : ℕ). sum (take h (drop (p * h) bs)) + z) a ∙ block-joins h (p * h) bs
      ∙ ap (λ (z : ℕ). sum (take (h + h) (drop z bs))) (start-odd i h p e q)

  entry-joined : (i : ℕ) → entry ◌+◌ ◌+◌ 0 h cs i ≡ sum (take (h + h) (drop (i / (h + h) * (h + h)) bs))
  unfolding entry
  entry-joined i = go (eqb (i / h % 2) 0) (eqb→eq (i / h % 2) 0) (odd-of (i / h))
    where
      go : (b : Bool) → (T b → i / h % 2 ≡ 0) → (T (not b) → i / h % 2 ≡ 1)
          → cond b (get_or cs i 0 + get_or cs (i + h) 0) (get_or cs (i - h) 0 + get_or cs i 0) ≡ sum (take (h + h) (drop (i / (h + h) * (h + h)) bs))
      go true e o = joined-even i (e tt)
      go false e o = joined-odd i (o tt)

-- ---- one stage makes blocks of twice the size; outside the list there is nothing on either side
beyond : (h : ℕ) (i : ℕ) (bs : List ℕ) → length bs ≤ i / h * h → sum (take h (drop (i / h * h) bs)) ≡ 0
unfolding sum
beyond h i bs l = ap (λ (z : List ℕ). sum (take h z)) (drop_of_length-le bs l) ∙ ap sum (take-nil h)

past : (c h i : ℕ) → 0 < h → c * h ≤ i → c * h ≤ i / h * h
past c h i H l = mul-le-mul_right h ((le-div_iff_mul-le H).1 l)

blocks-stage : (c h : ℕ) (bs cs : List ℕ) → 0 < h → length bs ≡ c * (h + h) → length cs ≡ length bs → Blocks h bs cs → Blocks (h + h) bs (stage ◌+◌ ◌+◌ 0 h cs)
blocks-stage c h bs cs H e f all i = go (ltb i (length cs)) (ltb→lt i (length cs)) (nltb→le i (length cs))
  where
    go : (b : Bool) → (T b → i < length cs) → (T (not b) → length cs ≤ i) → get_or (stage ◌+◌ ◌+◌ 0 h cs) i 0 ≡ sum (take (h + h) (drop (i / (h + h) * (h + h)) bs))
    go true l g = stage_at ◌+◌ ◌+◌ 0 h cs i (l tt) ∙ entry-joined h H bs cs all i
    go false l g =
        get_or-eq_default (stage ◌+◌ ◌+◌ 0 h cs) 0 (le_trans (le_of_eq (length-stage ◌+◌ ◌+◌ 0 h cs)) (g tt))
        ∙ sym (beyond (h + h) i bs (le_trans (le_of_eq e) (past c (h + h) i (omega arith) (le_trans (le_of_eq (sym (f ∙ e))) (g tt)))))

blocks-stages : (n h : ℕ) (bs cs : List ℕ) → 0 < h → length bs ≡ h * 2 ^ n → length cs ≡ length bs → Blocks h bs cs → Blocks (h * 2 ^ n) bs (stages ◌+◌ ◌+◌ 0 n h cs)
unfolding stages
blocks-stages zero h bs cs H e f all = subst (λ (z : ℕ). Blocks z bs cs) (sym (mul-one h)) all
blocks-stages (suc n) h bs cs H e f all =
    let w : (h + h) * 2 ^ n ≡ h * 2 ^ suc n = omega (arith, ap (λ (z : ℕ). h * z) (pow-suc 2 n)) in
    subst (λ (z : ℕ). Blocks z bs (stages ◌+◌ ◌+◌ 0 n (h + h) (stage ◌+◌ ◌+◌ 0 h cs))) w
    (blocks-stages n (h + h) bs (stage ◌+◌ ◌+◌ 0 h cs) (omega arith) (e ∙ sym w) (length-stage ◌+◌ ◌+◌ 0 h cs ∙ f)
    (blocks-stage (2 ^ n) h bs cs H (e ∙ sym w ∙ mul_comm (h + h) (2 ^ n)) f all))

-- a block of one entry is that entry
single : (bs : List ℕ) (i : ℕ) → get_or bs i 0 ≡ sum (take 1 (drop i bs))
unfolding sum
single [] i = ap sum (sym (ap (λ (z : List ℕ). take 1 z) (drop-nil i) ∙ take-nil 1))
single (b ∷ bs) zero = sym (add-zero b)
single (b ∷ bs) (suc i) = single bs i

blocks_start : (bs : List ℕ) → Blocks 1 bs bs
blocks_start bs i = single bs i ∙ ap (λ (z : ℕ). sum (take 1 (drop z bs))) (sym (mul-one (i / 1) ∙ div-one i))

-- all the stages of a list of 2 ^ n entries
plus-stages : (n : ℕ) (bs : List ℕ) → length bs ≡ 2 ^ n → stages ◌+◌ ◌+◌ 0 n 1 bs ≡ replicate (2 ^ n) (sum bs)
plus-stages n bs e =
    let len : length (stages ◌+◌ ◌+◌ 0 n 1 bs) ≡ 2 ^ n = length-stages ◌+◌ ◌+◌ 0 n 1 bs ∙ e in
    ext_get_or 0 (stages ◌+◌ ◌+◌ 0 n 1 bs) (replicate (2 ^ n) (sum bs)) (len ∙ sym (length-replicate (2 ^ n) (sum bs)))
    (λ i l. each i (le_trans l (le_of_eq len)))
  where
    all : Blocks (2 ^ n) bs (stages ◌+◌ ◌+◌ 0 n 1 bs)
    all = subst (λ (z : ℕ). Blocks z bs (stages ◌+◌ ◌+◌ 0 n 1 bs)) (one-mul (2 ^ n)) (blocks-stages n 1 bs bs (zero-lt-suc 0) (e ∙ sym (one-mul (2 ^ n))) refl (blocks_start bs))

    each : (i : ℕ) → i < 2 ^ n → get_or (stages ◌+◌ ◌+◌ 0 n 1 bs) i 0 ≡ get_or (replicate (2 ^ n) (sum bs)) i 0
    each i l =
        all i ∙ ap (λ (z : ℕ). sum (take (2 ^ n) (drop z bs))) (ap (λ (z : ℕ). z * 2 ^ n) (div-eq_of_lt l) ∙ zero-mul (2 ^ n)) ∙ ap sum (take_all (2 ^ n) bs (le_of_eq e))
        ∙ sym (get_or-replicate (2 ^ n) i (sum bs) 0 l)

-- ---- all the stages on floats: the sums of the r's and of the a's bound every entry
pub close-transform : {s k : ℕ} {rs bs : List ℕ} {vs : List Float} {xs : List Diff} (n : ℕ) → length vs ≡ 2 ^ n → k + n ≤ 2 ^ 23 → AllClose s k rs bs vs xs
    → AllClose s (k + n) (replicate (2 ^ n) (sum rs)) (replicate (2 ^ n) (sum bs)) (stages (add binary32) (sub binary32) pos_zero n 1 vs) (stages ◌⊞◌ ◌⊟◌ nought n 1 xs)
close-transform {s} {k} {rs} {bs} {vs} {xs} n e K all =
    let a = plus-stages n rs (all-close-errors all ∙ e) in
    let b = plus-stages n bs (all-close-sizes all ∙ e) in
    subst (λ (z : List ℕ). AllClose s (k + n) z (replicate (2 ^ n) (sum bs)) (stages (add binary32) (sub binary32) pos_zero n 1 vs) (stages ◌⊞◌ ◌⊟◌ nought n 1 xs)) a
    (subst (λ (z : List ℕ). AllClose s (k + n) (stages ◌+◌ ◌+◌ 0 n 1 rs) z (stages (add binary32) (sub binary32) pos_zero n 1 vs) (stages ◌⊞◌ ◌⊟◌ nought n 1 xs)) b
    (close-stages n 1 K all))

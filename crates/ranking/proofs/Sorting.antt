-- `sorted` does what its name says: the same hits, in their order. Assumes nothing.
use mathlib.Core.Path.{◌≡◌, refl, sym, ap, ◌∙◌}
use mathlib.Core.Logic.{⊎_elim, ◌≢◌}
use Prim.Native.Nat.{ℕ, suc, ◌≤◌}
use native.Mathlib.Omega.{arith}
use mathlib.Core.Bool.{Bool, true, false, cond}
use mathlib.Core.List.{List, [], ◌∷◌}
use lib.ListN.{length}
use Rattle.ranking.specs.declared.Hit.{Hit}
use Rattle.ranking.specs.Ranked.{before, placed, sorted}
use Rattle.ranking.specs.Sorting.{Every, Pairwise, Distinct, count, Sorted}
use Rattle.ranking.proofs.Orders.{pairwise-both, pairwise-all}
use Rattle.ranking.proofs.Ranking.{either, before-total, every-placed, every-sorted, standing-sorted}

-- ---- the same hits
length-placed : (h : Hit) (ys : List Hit) → length (placed h ys) ≡ suc (length ys)
unfolding placed
length-placed h [] = refl
length-placed h (y ∷ ys) = ⊎_elim (λ (p : before h y ≡ true). simp p) (λ (p : before h y ≡ false). simp p (ap suc (length-placed h ys))) (either (before h y))

pub length-sorted : (hs : List Hit) → length (sorted hs) ≡ length hs
unfolding sorted
length-sorted [] = refl
length-sorted (h ∷ hs) = length-placed h (sorted hs) ∙ ap suc (length-sorted hs)

count-placed : (p : Hit → Bool) (h : Hit) (ys : List Hit) → count p (placed h ys) ≡ count p (h ∷ ys)
unfolding placed count
count-placed p h [] = refl
count-placed p h (y ∷ ys) =
    ⊎_elim (λ (b : before h y ≡ true). simp b)
    (λ (b : before h y ≡ false). simp b (ap (λ (n : ℕ). cond (p y) (suc n) n) (count-placed p h ys) ∙ exchanged (p y) (p h) (count p ys)))
    (either (before h y))
  where
    exchanged : (a b : Bool) (n : ℕ) → cond a (suc (cond b (suc n) n)) (cond b (suc n) n) ≡ cond b (suc (cond a (suc n) n)) (cond a (suc n) n)
    exchanged true true n = refl
    exchanged true false n = refl
    exchanged false true n = refl
    exchanged false false n = refl

pub count-sorted : (p : Hit → Bool) (hs : List Hit) → count p (sorted hs) ≡ count p hs
unfolding sorted count
count-sorted p [] = refl
count-sorted p (h ∷ hs) = count-placed p h (sorted hs) ∙ ap (λ (n : ℕ). cond (p h) (suc n) n) (count-sorted p hs)

pub count-few : (p : Hit → Bool) (hs : List Hit) → count p hs ≤ length hs
unfolding count
count-few p [] = omega arith
count-few p (h ∷ hs) = ⊎_elim (λ (b : p h ≡ true). simp b (omega (arith, count-few p hs))) (λ (b : p h ≡ false). simp b (omega (arith, count-few p hs))) (either (p h))

-- ---- in their order
distinct-placed : (h : Hit) (ys : List Hit) → Every (λ y. h.number ≢ y.number) ys → Distinct ys → Distinct (placed h ys)
unfolding placed Every Pairwise
distinct-placed h [] new old = (tt, tt)
distinct-placed h (y ∷ ys) new old =
    ⊎_elim (λ (p : before h y ≡ true). simp p (new, old))
    (λ (p : before h y ≡ false). simp p (every-placed (λ z. y.number ≢ z.number) h ys (λ e. new.0 (sym e)) old.0, distinct-placed h ys new.1 old.1))
    (either (before h y))

pub distinct-sorted : (hs : List Hit) → Distinct hs → Distinct (sorted hs)
unfolding sorted Pairwise
distinct-sorted [] all = tt
distinct-sorted (h ∷ hs) all = distinct-placed h (sorted hs) (every-sorted (λ y. h.number ≢ y.number) hs all.0) (distinct-sorted hs all.1)

pub sorted-is : (hs : List Hit) → Sorted hs
sorted-is hs =
    record {
      many = length-sorted hs;
      same = λ p. count-sorted p hs;
      ordered = λ finite distinct d i j. pairwise-all (λ x y. before x y ≡ true) d (sorted hs) i j
          (pairwise-both (λ x y. x.number ≢ y.number) (λ x y. before y x ≡ false) (λ x y. before x y ≡ true) before-total (sorted hs) (distinct-sorted hs distinct) (standing-sorted hs finite));
    }

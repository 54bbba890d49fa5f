-- Hits that are taken one after another, each with a greater number than those before, stand as the full sort has them: each is put in before the first that it beats,
-- and of the sorted hits the first k suffice. Assumes nothing.
use mathlib.Core.Path.{◌≡◌, refl, sym, ap, ◌∙◌}
use Prim.Native.Nat.{ℕ, zero, suc, ◌<◌, ◌≤◌}
use native.Mathlib.Omega.{arith}
use mathlib.Core.Bool.{Bool, true, false, not, true≢false}
use mathlib.Core.List.{List, [], ◌∷◌, ◌++◌}
use mathlib.Core.Logic.{◌⊎◌, inl, inr, ⊎_elim, ◌≢◌}
use lib.Dec.{ltb}
use lib.ListN.{take, drop, length, get_or}
use lib.Seq.{take-take}
use borrow.Author.Tests.{ltb-true, ltb-false, lt-ltb, le-ltb}
use Rattle.ranking.specs.declared.Hit.{Hit}
use Rattle.ranking.specs.Ranked.{beats, before, placed, sorted}
use Rattle.ranking.specs.Sorting.{Every, Pairwise, Finites}
use Rattle.ranking.proofs.FloatOrder.{lt-neg-trans, lt-asym}
use Rattle.ranking.proofs.Orders.{Finite, Olders, Falling, Standing, every-both, every_take, every-all, pairwise-weaken, pairwise_take, pairwise-all, insert}

pub either : (b : Bool) → (b ≡ true) ⊎ (b ≡ false)
either true = inl refl
either false = inr refl

-- ---- the order of two hits
pub beats-asym : (x y : Hit) → Finite x → Finite y → beats x y ≡ true → beats y x ≡ false
unfolding beats
beats-asym x y f g h = lt-asym y.score x.score g f h

-- x does not beat y, y does not beat z
pub beats-neg-trans : (x y z : Hit) → Finite x → Finite y → Finite z → beats x y ≡ false → beats y z ≡ false → beats x z ≡ false
unfolding beats
beats-neg-trans x y z f g h a b = lt-neg-trans z.score y.score x.score h g f b a

-- of two hits the older stands before, unless the newer beats it
pub before-older : (h x : Hit) → Finite h → Finite x → h.number < x.number → before h x ≡ not (beats x h)
unfolding before
before-older h x f g n =
    ⊎_elim (λ (p : beats x h ≡ true). simp (p, beats-asym x h g f p)) (λ (q : beats x h ≡ false). ⊎_elim (λ (r : beats h x ≡ true). simp (q, r)) (λ (r : beats h x ≡ false). simp (q, r, lt-ltb h.number x.number n)) (either (beats h x))) (either (beats x h))

before-not-beaten : (h y : Hit) → Finite h → Finite y → before h y ≡ true → beats y h ≡ false
unfolding before
before-not-beaten h y f g b =
    ⊎_elim (λ (p : beats y h ≡ true). let z : false ≡ true = simp (p, beats-asym y h g f p) at b in p ∙ sym z) (λ q. q) (either (beats y h))

-- what it takes not to stand before: no greater score, and of equal scores no smaller number
pub not-before-not-beats : (h y : Hit) → before h y ≡ false → beats h y ≡ false
unfolding before
not-before-not-beats h y b = ⊎_elim (λ (p : beats h y ≡ true). let z : true ≡ false = simp p at b in p ∙ z) (λ q. q) (either (beats h y))

pub not-before-number : (h y : Hit) → before h y ≡ false → beats y h ≡ false → y.number ≤ h.number
unfolding before
not-before-number h y b q =
    ltb-false h.number y.number (simp (not-before-not-beats h y b, q) at b)

not-before : (h y : Hit) → beats h y ≡ false → (beats y h ≡ false → y.number ≤ h.number) → before h y ≡ false
unfolding before
not-before h y a b = ⊎_elim (λ (p : beats y h ≡ true). simp (a, p)) (λ (q : beats y h ≡ false). simp (a, q, le-ltb h.number y.number (b q))) (either (beats y h))

pub before-neg-trans : (x y z : Hit) → Finite x → Finite y → Finite z → before x y ≡ false → before y z ≡ false → before x z ≡ false
before-neg-trans x y z f g h a b =
    let p = not-before-not-beats x y a in
    let q = not-before-not-beats y z b in
    not-before x z (beats-neg-trans x y z f g h p q)
    (λ (r : beats z x ≡ false).
    omega (arith, not-before-number x y a (beats-neg-trans y z x g h f q r), not-before-number y z b (beats-neg-trans z x y h f g r p)))

pub before-asym : (x y : Hit) → Finite x → Finite y → before x y ≡ true → before y x ≡ false
unfolding before
before-asym x y f g b =
    let n = before-not-beaten x y f g b in
    not-before y x n
    (λ (r : beats x y ≡ false). let l : ltb x.number y.number ≡ true = simp (r, n) at b in omega (arith, ltb-true x.number y.number l))

-- of two hits with different numbers one stands before the other
pub before-total : (x y : Hit) → x.number ≢ y.number → before y x ≡ false → before x y ≡ true
unfolding before
before-total x y d b =
    ⊎_elim (λ (p : beats x y ≡ true). simp p)
    (λ (q : beats x y ≡ false). simp (q, not-before-not-beats y x b, lt-ltb x.number y.number (omega (arith, not-before-number y x b q, d))))
    (either (beats x y))

-- ---- what placing keeps
pub every-placed : (P : Hit → Type 0) (h : Hit) (ys : List Hit) → P h → Every P ys → Every P (placed h ys)
unfolding placed Every
every-placed P h [] f all = (f, tt)
every-placed P h (y ∷ ys) f all =
    ⊎_elim (λ (p : before h y ≡ true). simp p (f, all)) (λ (p : before h y ≡ false). simp p (all.0, every-placed P h ys f all.1)) (either (before h y))

pub every-sorted : (P : Hit → Type 0) (hs : List Hit) → Every P hs → Every P (sorted hs)
unfolding sorted Every
every-sorted P [] all = tt
every-sorted P (h ∷ hs) all = every-placed P h (sorted hs) all.0 (every-sorted P hs all.1)

pub finites-sorted : (hs : List Hit) → Finites hs → Finites (sorted hs)
finites-sorted hs all = every-sorted Finite hs all

pub finites-take : (k : ℕ) (hs : List Hit) → Finites hs → Finites (take k hs)
finites-take k hs all = every_take Finite k hs all

-- ---- an older hit put in its place, and a newer one inserted, in either order
pub placed-insert : (h x : Hit) (ys : List Hit) → Finite h → Finite x → Finites ys → h.number < x.number → placed h (insert x ys) ≡ insert x (placed h ys)
unfolding placed insert Every
placed-insert h x [] f g all n =
    ⊎_elim (λ (p : beats x h ≡ true). simp (before-older h x f g n, p)) (λ (q : beats x h ≡ false). simp (before-older h x f g n, q)) (either (beats x h))
placed-insert h x (y ∷ ys) f g all n = by_order (placed-insert h x ys f g all.1 n) (either (before h y)) (either (beats x y)) (either (beats x h))
  where
    by_order : placed h (insert x ys) ≡ insert x (placed h ys)
        → (before h y ≡ true) ⊎ (before h y ≡ false) → (beats x y ≡ true) ⊎ (beats x y ≡ false) → (beats x h ≡ true) ⊎ (beats x h ≡ false)
        → placed h (insert x (y ∷ ys)) ≡ insert x (placed h (y ∷ ys))
    by_order rest (inl p) (inl q) (inl r) = simp (before-older h x f g n, p, q, r)
    by_order rest (inl p) (inl q) (inr r) = simp (before-older h x f g n, p, q, r)
    by_order rest (inl p) (inr q) r = simp (p, q, beats-neg-trans x y h g all.0 f q (before-not-beaten h y f all.0 p))
    by_order rest (inr p) (inl q) (inl r) = simp (before-older h x f g n, p, q, r)
    by_order rest (inr p) (inl q) (inr r) = absurd (true≢false (sym q ∙ beats-neg-trans x h y g f all.0 r (not-before-not-beats h y p)))
    by_order rest (inr p) (inr q) r = simp (p, q) (ap (λ (l : List Hit). y ∷ l) rest)

-- ---- the law: one hit more, the newest
pub sorted-snoc : (hs : List Hit) (x : Hit) → Finite x → Finites hs → Olders x.number hs → sorted (hs ++ (x ∷ [])) ≡ insert x (sorted hs)
unfolding sorted insert placed Every
sorted-snoc [] x g all old = refl
sorted-snoc (h ∷ hs) x g all old =
    ap (placed h) (sorted-snoc hs x g all.1 old.1) ∙ placed-insert h x (sorted hs) all.0 g (finites-sorted hs all.1) old.0

-- ---- the first k are kept by the first k
pub take-insert : (k : ℕ) (x : Hit) (ys : List Hit) → take k (insert x ys) ≡ take k (insert x (take k ys))
unfolding insert
take-insert zero x ys = refl
take-insert (suc k) x [] = refl
take-insert (suc k) x (y ∷ ys) =
    ⊎_elim (λ (p : beats x y ≡ true). simp p (ap (λ (l : List Hit). x ∷ l) (sym (take-cons k y ys))))
    (λ (p : beats x y ≡ false). simp p (ap (λ (l : List Hit). y ∷ l) (take-insert k x ys))) (either (beats x y))
  where
    take-cons : (k : ℕ) (y : Hit) (ys : List Hit) → take k (y ∷ take k ys) ≡ take k (y ∷ ys)
    take-cons zero y ys = refl
    take-cons (suc k) y ys = ap (λ (l : List Hit). y ∷ l) (take-take k (suc k) ys (omega arith))

-- ---- no hit of a sorted list stands before an earlier one, and none beats an earlier one
pub standing-placed : (h : Hit) (ys : List Hit) → Finite h → Finites ys → Standing ys → Standing (placed h ys)
unfolding placed Every Pairwise
standing-placed h [] f all up = (tt, tt)
standing-placed h (y ∷ ys) f all up =
    ⊎_elim
    (λ (p : before h y ≡ true).
    let q = before-asym h y f all.0 p in
    simp p ((q, every-both Finite (λ z. before z y ≡ false) (λ z. before z h ≡ false) (λ z g b. before-neg-trans z y h g all.0 f b q) ys all.1 up.0), up))
    (λ (p : before h y ≡ false). simp p (every-placed (λ z. before z y ≡ false) h ys p up.0, standing-placed h ys f all.1 up.1))
    (either (before h y))

pub standing-sorted : (hs : List Hit) → Finites hs → Standing (sorted hs)
unfolding sorted Every Pairwise
standing-sorted [] all = tt
standing-sorted (h ∷ hs) all = standing-placed h (sorted hs) all.0 (finites-sorted hs all.1) (standing-sorted hs all.1)

pub falling-sorted : (hs : List Hit) → Finites hs → Falling (sorted hs)
falling-sorted hs all = pairwise-weaken (λ y z. before z y ≡ false) (λ y z. beats z y ≡ false) (λ y z. not-before-not-beats z y) (sorted hs) (standing-sorted hs all)

pub falling-take : (k : ℕ) (hs : List Hit) → Falling hs → Falling (take k hs)
falling-take k hs down = pairwise_take (λ y z. beats z y ≡ false) k hs down

-- ---- insertion by a place: none before it is beaten, and the one there is
pub insert-at : (p : ℕ) (x d : Hit) (ys : List Hit) → p ≤ length ys → ((j : ℕ) → j < p → beats x (get_or ys j d) ≡ false) → (p < length ys → beats x (get_or ys p d) ≡ true)
    → insert x ys ≡ take p ys ++ (x ∷ drop p ys)
unfolding insert
insert-at zero x d [] le none there = refl
insert-at zero x d (y ∷ ys) le none there = simp (there (omega arith))
insert-at (suc p) x d [] le none there = absurd (omega arith)
insert-at (suc p) x d (y ∷ ys) le none there =
    simp (none 0 (omega arith)) (ap (λ (l : List Hit). y ∷ l) (insert-at p x d ys (omega arith) (λ j l. none (suc j) (omega arith)) (λ l. there (omega arith))))

-- where the hit at a place is not beaten, none before it is
pub none_before : (p : ℕ) (x d : Hit) (ys : List Hit) → Finite x → Finites ys → Falling ys → p < length ys → beats x (get_or ys p d) ≡ false → (j : ℕ) → j ≤ p → beats x (get_or ys j d) ≡ false
none_before p x d ys g all down l b j le =
    ⊎_elim
    (λ (t : ltb j p ≡ true).
    let m = ltb-true j p t in
    beats-neg-trans x (get_or ys p d) (get_or ys j d) g (every-all Finite d ys p all l) (every-all Finite d ys j all (omega arith)) b (pairwise-all (λ y z. beats z y ≡ false) d ys j p down m l))
    (λ (t : ltb j p ≡ false).
    let e : j ≡ p = omega (arith, ltb-false j p t) in
    ap (λ (n : ℕ). beats x (get_or ys n d)) e ∙ b)
    (either (ltb j p))

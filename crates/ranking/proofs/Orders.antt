-- What holds of every hit of a list, or between each hit and every later one, holds of its parts, of lists put together and of the hit at a place. The properties
-- that only proofs name stand first. Assumes nothing.
use mathlib.Core.Path.{◌≡◌}
use Prim.Native.Nat.{ℕ, zero, suc, ◌<◌}
use native.Mathlib.Omega.{arith}
use mathlib.Core.Bool.{false, cond}
use mathlib.Core.List.{List, [], ◌∷◌, ◌++◌}
use lib.Dec.{T}
use lib.ListN.{take, length, get_or}
use lib.Ieee.Scale.{finite}
use Rattle.ranking.specs.declared.Hit.{Hit}
use Rattle.ranking.specs.Ranked.{beats, before}
use Rattle.ranking.specs.Sorting.{Every, Pairwise}

-- The score is finite.
abbrev pub Finite : Hit → Type 0
Finite h = T (finite h.score)

-- Every number is below n.
abbrev pub Olders : ℕ → List Hit → Type 0
Olders n hs = Every (λ (h : Hit). h.number < n) hs

-- No hit is beaten by a later one.
abbrev pub Falling : List Hit → Type 0
Falling hs = Pairwise (λ (y z : Hit). beats z y ≡ false) hs

-- No hit stands before an earlier one.
abbrev pub Standing : List Hit → Type 0
Standing hs = Pairwise (λ (y z : Hit). before z y ≡ false) hs

-- A hit with a greater number than all others is put in before the first one that it beats.
unfoldable pub insert : Hit → List Hit → List Hit
insert x [] = x ∷ []
insert x (y ∷ ys) = cond (beats x y) (x ∷ y ∷ ys) (y ∷ insert x ys)

-- ---- every hit
pub every-both : (P Q R : Hit → Type 0) → ((h : Hit) → P h → Q h → R h) → (hs : List Hit) → Every P hs → Every Q hs → Every R hs
unfolding Every
every-both P Q R f [] p q = tt
every-both P Q R f (h ∷ hs) p q = (f h p.0 q.0, every-both P Q R f hs p.1 q.1)

pub every-weaken : (P Q : Hit → Type 0) → ((h : Hit) → P h → Q h) → (hs : List Hit) → Every P hs → Every Q hs
every-weaken P Q f hs p = every-both P P Q (λ h a b. f h a) hs p p

pub every_append : (P : Hit → Type 0) (xs ys : List Hit) → Every P xs → Every P ys → Every P (xs ++ ys)
unfolding Every
every_append P [] ys p q = q
every_append P (x ∷ xs) ys p q = (p.0, every_append P xs ys p.1 q)

pub every-snoc : (P : Hit → Type 0) (hs : List Hit) (x : Hit) → Every P hs → P x → Every P (hs ++ (x ∷ []))
unfolding Every
every-snoc P hs x p q = every_append P hs (x ∷ []) p (q, tt)

pub every_take : (P : Hit → Type 0) (k : ℕ) (hs : List Hit) → Every P hs → Every P (take k hs)
unfolding Every
every_take P zero hs p = tt
every_take P (suc k) [] p = tt
every_take P (suc k) (h ∷ hs) p = (p.0, every_take P k hs p.1)

-- the hit at a place; d is never read
pub every-all : (P : Hit → Type 0) (d : Hit) (hs : List Hit) (j : ℕ) → Every P hs → j < length hs → P (get_or hs j d)
unfolding Every
every-all P d [] j p l = absurd (omega arith)
every-all P d (h ∷ hs) zero p l = p.0
every-all P d (h ∷ hs) (suc j) p l = every-all P d hs j p.1 (omega arith)

-- ---- each hit and every later one
pub pairwise-both : (P Q R : Hit → Hit → Type 0) → ((y z : Hit) → P y z → Q y z → R y z) → (hs : List Hit) → Pairwise P hs → Pairwise Q hs → Pairwise R hs
unfolding Pairwise
pairwise-both P Q R f [] p q = tt
pairwise-both P Q R f (h ∷ hs) p q = (every-both (P h) (Q h) (R h) (f h) hs p.0 q.0, pairwise-both P Q R f hs p.1 q.1)

pub pairwise-weaken : (P Q : Hit → Hit → Type 0) → ((y z : Hit) → P y z → Q y z) → (hs : List Hit) → Pairwise P hs → Pairwise Q hs
pairwise-weaken P Q f hs p = pairwise-both P P Q (λ y z a b. f y z a) hs p p

pub pairwise_take : (R : Hit → Hit → Type 0) (k : ℕ) (hs : List Hit) → Pairwise R hs → Pairwise R (take k hs)
unfolding Pairwise
pairwise_take R zero hs p = tt
pairwise_take R (suc k) [] p = tt
pairwise_take R (suc k) (h ∷ hs) p = (every_take (R h) k hs p.0, pairwise_take R k hs p.1)

pub pairwise-all : (R : Hit → Hit → Type 0) (d : Hit) (hs : List Hit) (i j : ℕ) → Pairwise R hs → i < j → j < length hs → R (get_or hs i d) (get_or hs j d)
unfolding Pairwise
pairwise-all R d [] i j p l m = absurd (omega arith)
pairwise-all R d (h ∷ hs) i zero p l m = absurd (omega arith)
pairwise-all R d (h ∷ hs) zero (suc j) p l m = every-all (R h) d hs j p.0 (omega arith)
pairwise-all R d (h ∷ hs) (suc i) (suc j) p l m = pairwise-all R d hs i j p.1 (omega arith) (omega arith)

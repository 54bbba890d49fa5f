-- A reader need not follow how `sorted` sorts: its list holds the same hits, and each stands before every later one where the scores are finite and the numbers
-- differ. How zeros and equal scores stand is worked out on four hits. Assumes nothing.
use Rattle.std.specs.Prelude.{ℕ, suc, ◌<◌, ◌≡◌, ◌≢◌, Bool, true, false, cond, List, [], ◌∷◌, map, reverse, T, pos, length, get_or, Float}
use Rattle.std.specs.Float.{fin}
use Rattle.std.specs.Float.Ieee.Scale.{finite}
use Rattle.float.specs.Constants.{pos_zero, one}
use Rattle.ranking.specs.declared.Hit.{Hit}
use Rattle.ranking.specs.Ranked.{before, sorted}

-- Every hit of a list has a property.
unfoldable pub Every : (Hit → Type 0) → List Hit → Type 0
Every P [] = Unit {0}
Every P (h ∷ hs) = P h × Every P hs

-- Each hit of a list is in a relation to every later one.
unfoldable pub Pairwise : (Hit → Hit → Type 0) → List Hit → Type 0
unfolding Every
Pairwise R [] = Unit {0}
Pairwise R (h ∷ hs) = Every (R h) hs × Pairwise R hs

-- Every score is finite.
abbrev pub Finites : List Hit → Type 0
Finites hs = Every (λ (h : Hit). T (finite h.score)) hs

-- No two hits have the same number.
abbrev pub Distinct : List Hit → Type 0
Distinct hs = Pairwise (λ (x y : Hit). x.number ≢ y.number) hs

-- So many hits of a list pass a test.
unfoldable pub count : (Hit → Bool) → List Hit → ℕ
count p [] = 0
count p (h ∷ hs) = cond (p h) (suc (count p hs)) (count p hs)

-- The sorted list is as long, and as many of its hits pass any test: it holds the same hits, each as often. Where the scores are finite and the numbers differ, the
-- hit at a place i stands before the one at any later place j; `d` stands for what is outside the list and is never read.
pub record Sorted (hs : List Hit) : Type 0 where
  pub many : length (sorted hs) ≡ length hs
  pub same : (p : Hit → Bool) → count p (sorted hs) ≡ count p hs
  pub ordered : Finites hs → Distinct hs → (d : Hit) (i j : ℕ) → i < j → j < length (sorted hs) → before (get_or (sorted hs) i d) (get_or (sorted hs) j d) ≡ true

abbrev pub hit : ℕ → Float → Hit
hit n x = record { number = n; score = x }

-- These hits have the numbers 0 to 3 and the scores −0.0, 0.0, 1.0 and 1.0.
abbrev pub zeros_and_ones : List Hit
zeros_and_ones = hit 0 (fin true 0 (pos 0)) ∷ hit 1 pos_zero ∷ hit 2 (one false) ∷ hit 3 (one false) ∷ []

-- 'equal scores, both zeros included, stand by number', whether the hits are given by rising or by falling number.
pub record Ties : Type 0 where
  pub rising : map (λ (h : Hit). h.number) (sorted zeros_and_ones) ≡ 2 ∷ 3 ∷ 0 ∷ 1 ∷ []
  pub falling : map (λ (h : Hit). h.number) (sorted (reverse zeros_and_ones)) ≡ 2 ∷ 3 ∷ 0 ∷ 1 ∷ []

-- The hits of a history. They are no more than k, each is an accepted record with its number and its score, they stand by falling score and equal scores by number,
-- and an accepted record changes them as an insertion does. Assumes nothing.
use Prim.Native.Nat.{ℕ, ◌≤◌, ◌<◌}
use mathlib.Core.Path.{◌≡◌, ap, ◌∙◌}
use mathlib.Core.Bool.{true}
use mathlib.Core.List.{List, ◌∷◌}
use native.Mathlib.Omega.{arith}
use lib.Dec.{T}
use lib.ListN.{length, take, get_or, length-take}
use lib.Seq.{get_or-take}
use lib.Ieee.{Float}
use lib.Ieee.Scale.{finite}
use Rattle.error.specs.Answer.{Answer, value}
use Rattle.ranking.specs.declared.Hit.{Hit}
use Rattle.ranking.specs.Ranked.{before, sorted}
use Rattle.ranking.specs.Sorting.{Finites}
use Rattle.ranking.proofs.Orders.{Falling, every_take, every-all, insert}
use Rattle.ranking.proofs.Sorting.{sorted-is}
use Rattle.ranking.proofs.Ranking.{sorted-snoc, take-insert, falling-sorted, falling-take, finites-sorted, finites-take, every-sorted}
use Rattle.scan.specs.Events.{Event}
use Rattle.scan.specs.History.{numbered, accepted_of, hits_of}
use Rattle.scan.proofs.Histories.{Answered, accepted-answered, accepted-older, accepted-distinct}

pub hits_few : (k : ℕ) (es : List Event) → length (hits_of k es) ≤ k
hits_few k es = omega (arith, length-take k (sorted (accepted_of (numbered es))))

pub finite-hits : (k : ℕ) (es : List Event) → Finites (accepted_of (numbered es)) → Finites (hits_of k es)
finite-hits k es all = finites-take k (sorted (accepted_of (numbered es))) (finites-sorted (accepted_of (numbered es)) all)

pub falling-hits : (k : ℕ) (es : List Event) → Finites (accepted_of (numbered es)) → Falling (hits_of k es)
falling-hits k es all = falling-take k (sorted (accepted_of (numbered es))) (falling-sorted (accepted_of (numbered es)) all)

-- ---- one accepted record more

-- a record with the next number
abbrev pub newest : List (Answer Float) → Float → Hit
newest answers x = record { number = length answers; score = x }

pub hits_next : (k : ℕ) (es : List Event) (x : Float) → T (finite x) → Finites (accepted_of (numbered es))
    → take k (sorted (accepted_of (value x ∷ numbered es))) ≡ take k (insert (newest (numbered es) x) (hits_of k es))
unfolding accepted_of
hits_next k es x f all =
    ap (take k) (sorted-snoc (accepted_of (numbered es)) (newest (numbered es) x) f all (accepted-older (numbered es)))
    ∙ take-insert k (newest (numbered es) x) (sorted (accepted_of (numbered es)))

-- ---- each hit is an answered record

pub hit-answered : (k : ℕ) (es : List Event) (i : ℕ) (d : Hit) → i < length (hits_of k es) → Answered (numbered es) (get_or (hits_of k es) i d)
hit-answered k es i d l =
    every-all (Answered (numbered es)) d (hits_of k es) i
    (every_take (Answered (numbered es)) k (sorted (accepted_of (numbered es))) (every-sorted (Answered (numbered es)) (accepted_of (numbered es)) (accepted-answered (numbered es))))
    l

-- ---- by falling score, equal scores by number

pub hits-before : (k : ℕ) (es : List Event) → Finites (accepted_of (numbered es)) → (i j : ℕ) (d : Hit) → i < j → j < length (hits_of k es)
    → before (get_or (hits_of k es) i d) (get_or (hits_of k es) j d) ≡ true
hits-before k es all i j d l m =
    let hs = sorted (accepted_of (numbered es)) in
    let inside : j < k = omega (arith, hits_few k es) in
    rw (get_or-take k hs i d (omega arith), get_or-take k hs j d inside)
    ((sorted-is (accepted_of (numbered es))).ordered all (accepted-distinct (numbered es)) d i j l (omega (arith, length-take k hs)))

-- What a history numbers. Those numbered are no more than a scan takes, and accepted, refused and withdrawn records no more than those; every accepted record has its
-- number's answer, and where every answered score is finite, every accepted one is. Assumes nothing.
use Prim.Native.Nat.{ℕ, ◌≤◌, ◌<◌}
use mathlib.Core.Path.{◌≡◌, refl, ap, ◌∙◌}
use mathlib.Core.Bool.{true, false}
use mathlib.Core.List.{List, [], ◌∷◌, ◌++◌, reverse, reverse-cons}
use mathlib.Core.Logic.{⊎_elim, ◌≢◌}
use native.Mathlib.Omega.{arith}
use borrow.Author.Tests.{leb-false}
use lib.Dec.{T, leb}
use lib.ListN.{length, get_or, length-append, length-reverse, get_or-append}
use lib.Seq.{get_or_at}
use lib.Ieee.{Float}
use lib.Ieee.Scale.{finite}
use Rattle.error.specs.Answer.{Answer, value, refused, withdrawn}
use Rattle.ranking.specs.declared.Hit.{Hit}
use Rattle.ranking.specs.Sorting.{Every, Pairwise, Finites, Distinct}
use Rattle.ranking.proofs.Orders.{Finite, Olders, every-weaken, every-snoc}
use Rattle.ranking.proofs.Ranking.{either}
use Rattle.scan.specs.Entering.{most}
use Rattle.scan.specs.Events.{Event}
use Rattle.scan.specs.History.{numbered, accepted_of, refused_of, withdrawn_of}

-- ---- counts

pub refused-few : (answers : List (Answer Float)) → refused_of answers ≤ length answers
unfolding refused_of
refused-few [] = omega arith
refused-few (value x ∷ answers) = omega (arith, refused-few answers)
refused-few (refused n p ∷ answers) = omega (arith, refused-few answers)
refused-few (withdrawn ∷ answers) = omega (arith, refused-few answers)

pub withdrawn-few : (answers : List (Answer Float)) → withdrawn_of answers ≤ length answers
unfolding withdrawn_of
withdrawn-few [] = omega arith
withdrawn-few (value x ∷ answers) = omega (arith, withdrawn-few answers)
withdrawn-few (refused n p ∷ answers) = omega (arith, withdrawn-few answers)
withdrawn-few (withdrawn ∷ answers) = omega (arith, withdrawn-few answers)

pub accepted-few : (answers : List (Answer Float)) → length (accepted_of answers) ≤ length answers
unfolding accepted_of
accepted-few [] = omega arith
accepted-few (value x ∷ answers) = rw length-append (omega (arith, accepted-few answers))
accepted-few (refused n p ∷ answers) = omega (arith, accepted-few answers)
accepted-few (withdrawn ∷ answers) = omega (arith, accepted-few answers)

pub numbered-few : (es : List Event) → length (numbered es) ≤ most
unfolding numbered
numbered-few [] = omega arith
numbered-few (value a ∷ es) =
    ⊎_elim
    (λ (b : leb most (length (numbered es)) ≡ true). simp b (numbered-few es))
    (λ (b : leb most (length (numbered es)) ≡ false). simp b (leb-false most (length (numbered es)) b))
    (either (leb most (length (numbered es))))
numbered-few (refused n p ∷ es) = numbered-few es
numbered-few (withdrawn ∷ es) = numbered-few es

-- ---- one event more

pub numbered-full : (es : List Event) (a : Answer Float) → leb most (length (numbered es)) ≡ true → numbered (value a ∷ es) ≡ numbered es
unfolding numbered
numbered-full es a full = simp full

pub numbered_next : (es : List Event) (a : Answer Float) → leb most (length (numbered es)) ≡ false → numbered (value a ∷ es) ≡ a ∷ numbered es
unfolding numbered
numbered_next es a free = simp free

pub numbered-skipped : (es : List Event) (n p : ℕ) → numbered (refused n p ∷ es) ≡ numbered es
unfolding numbered
numbered-skipped es n p = refl

pub numbered-none : (es : List Event) → numbered (withdrawn ∷ es) ≡ numbered es
unfolding numbered
numbered-none es = refl

-- ---- finite scores

abbrev pub FiniteAnswer : Answer Float → Type 0
FiniteAnswer (value x) = T (finite x)
FiniteAnswer (refused n p) = Unit {0}
FiniteAnswer withdrawn = Unit {0}

abbrev pub FiniteEvent : Event → Type 0
FiniteEvent (value a) = FiniteAnswer a
FiniteEvent (refused n p) = Unit {0}
FiniteEvent withdrawn = Unit {0}

unfoldable pub FiniteEvents : List Event → Type 0
FiniteEvents [] = Unit {0}
FiniteEvents (e ∷ es) = FiniteEvent e × FiniteEvents es

pub finite-next : (answers : List (Answer Float)) (a : Answer Float) → FiniteAnswer a → Finites (accepted_of answers) → Finites (accepted_of (a ∷ answers))
unfolding accepted_of
finite-next answers (value x) f all = every-snoc Finite (accepted_of answers) (record { number = length answers; score = x }) all f
finite-next answers (refused n p) f all = all
finite-next answers withdrawn f all = all

pub finite-accepted : (es : List Event) → FiniteEvents es → Finites (accepted_of (numbered es))
unfolding numbered accepted_of FiniteEvents Every
finite-accepted [] all = tt
finite-accepted (value a ∷ es) all =
    ⊎_elim
    (λ (b : leb most (length (numbered es)) ≡ true). simp b (finite-accepted es all.1))
    (λ (b : leb most (length (numbered es)) ≡ false). simp b (finite-next (numbered es) a all.0 (finite-accepted es all.1)))
    (either (leb most (length (numbered es))))
finite-accepted (refused n p ∷ es) all = finite-accepted es all.1
finite-accepted (withdrawn ∷ es) all = finite-accepted es all.1

-- ---- the number and the score of an accepted record are those of an answer

-- the items from the oldest on, with one more
module _ {A : Type 0} (x : A) (xs : List A) (d : A) where
  pub reversed-older : (n : ℕ) → n < length xs → get_or (reverse (x ∷ xs)) n d ≡ get_or (reverse xs) n d
  reversed-older n l = ap (λ (l : List A). get_or l n d) (reverse-cons x xs) ∙ get_or-append (reverse xs) (x ∷ []) d n (omega (arith, length-reverse xs))

  pub reversed-newest : get_or (reverse (x ∷ xs)) (length xs) d ≡ x
  reversed-newest = ap (λ (l : List A). get_or l (length xs) d) (reverse-cons x xs) ∙ get_or_at (reverse xs) x [] d (length xs) (length-reverse xs)

-- this is the answer of the record with a number: from the oldest on, they number from 0
abbrev pub answer_at : List (Answer Float) → ℕ → Answer Float
answer_at answers n = get_or (reverse answers) n withdrawn

pub record Answered (answers : List (Answer Float)) (h : Hit) : Type 0 where
  pub older : h.number < length answers
  pub answer : answer_at answers h.number ≡ value h.score

answered-more : (answers : List (Answer Float)) (a : Answer Float) (h : Hit) → Answered answers h → Answered (a ∷ answers) h
answered-more answers a h was = record { older = omega (arith, was.older); answer = reversed-older a answers withdrawn h.number was.older ∙ was.answer }

pub accepted-answered : (answers : List (Answer Float)) → Every (Answered answers) (accepted_of answers)
unfolding accepted_of Every
accepted-answered [] = tt
accepted-answered (value x ∷ answers) =
    every-snoc (Answered (value x ∷ answers)) (accepted_of answers) (record { number = length answers; score = x })
    (every-weaken (Answered answers) (Answered (value x ∷ answers)) (answered-more answers (value x)) (accepted_of answers) (accepted-answered answers))
    (record { older = omega arith; answer = reversed-newest (value x) answers withdrawn })
accepted-answered (refused n p ∷ answers) = every-weaken (Answered answers) (Answered (refused n p ∷ answers)) (answered-more answers (refused n p)) (accepted_of answers) (accepted-answered answers)
accepted-answered (withdrawn ∷ answers) = every-weaken (Answered answers) (Answered (withdrawn ∷ answers)) (answered-more answers withdrawn) (accepted_of answers) (accepted-answered answers)

pub accepted-older : (answers : List (Answer Float)) → Olders (length answers) (accepted_of answers)
accepted-older answers = every-weaken (Answered answers) (λ (h : Hit). h.number < length answers) (λ h was. was.older) (accepted_of answers) (accepted-answered answers)

-- no two have the same number
distinct_snoc : (hs : List Hit) (x : Hit) → Distinct hs → Olders x.number hs → Distinct (hs ++ (x ∷ []))
unfolding Every Pairwise
distinct_snoc [] x all old = (tt, tt)
distinct_snoc (h ∷ hs) x all old =
    (every-snoc (λ (y : Hit). h.number ≢ y.number) hs x all.0 (λ e. omega (arith, old.0)), distinct_snoc hs x all.1 old.1)

pub accepted-distinct : (answers : List (Answer Float)) → Distinct (accepted_of answers)
unfolding accepted_of Pairwise
accepted-distinct [] = tt
accepted-distinct (value x ∷ answers) = distinct_snoc (accepted_of answers) (record { number = length answers; score = x }) (accepted-distinct answers) (accepted-older answers)
accepted-distinct (refused n p ∷ answers) = accepted-distinct answers
accepted-distinct (withdrawn ∷ answers) = accepted-distinct answers

-- The comparisons of a history: what one event more adds, that a record adds no more than there are hits, and so a ceiling on all of them; those of a few records are
-- computed. Assumes nothing.
use Prim.Native.Nat.{ℕ, ◌+◌, ◌*◌, ◌≤◌}
use mathlib.Core.Path.{◌≡◌, refl, ap, ◌∙◌}
use mathlib.Core.Bool.{Bool, true, false, cond}
use mathlib.Core.List.{List, [], ◌∷◌}
use mathlib.Core.Logic.{⊎_elim}
use native.Mathlib.Nat.{le_trans, mul-le-mul, suc-mul}
use native.Mathlib.Omega.{arith}
use lib.Dec.{leb}
use lib.ListN.{length, length-append}
use lib.Ieee.{Float, lt}
use Rattle.error.specs.Answer.{Answer, value, refused, withdrawn}
use Rattle.ranking.specs.Ranked.{beats, before, placed, sorted}
use Rattle.ranking.specs.Sorting.{count}
use Rattle.ranking.proofs.Ranking.{either}
use Rattle.scan.specs.Entering.{most}
use Rattle.scan.specs.Events.{Event}
use Rattle.scan.specs.Shortening.{Step, came, asked, records_of, length_after}
use Rattle.scan.specs.History.{numbered, accepted_of, hits_of, kept_of, comparisons_with, added_by, comparisons_of}
use Rattle.scan.specs.AsOpened.{lengths_of, least_length}
use Rattle.scan.specs.Load.{Load, Counted}
use Rattle.scan.proofs.Histories.{accepted-few, numbered-few, numbered-full, numbered_next, numbered-skipped, numbered-none}
use Rattle.scan.proofs.Hits.{hits_few, finite-hits, falling-hits}
use Rattle.scan.proofs.Comparing.{comparisons-few, comparisons-upward}
use Rattle.scan.proofs.Lengths.{length-few}

-- ---- one record

-- with the length in force and the records before it
module _ (k : ℕ) (es : List Event) where
  -- a record's score, where there is a number left or none
  added-score : (x : Float) (b : Bool) → leb most (length (numbered es)) ≡ b → added_by k (value (value x)) es ≡ cond b 0 (comparisons_with x (hits_of k es))
  added-score x b e = ap (λ (c : Bool). cond c 0 (comparisons_with x (hits_of k es))) e

  added_full : (e : Event) → leb most (length (numbered es)) ≡ true → added_by k e es ≡ 0
  added_full (value (value x)) full = added-score x true full
  added_full (value (refused n p)) full = refl
  added_full (value withdrawn) full = refl
  added_full (refused n p) full = refl
  added_full withdrawn full = refl

  added-few : (e : Event) → added_by k e es ≤ k
  added-few (value (value x)) =
      ⊎_elim
      (λ (b : leb most (length (numbered es)) ≡ true). omega (arith, added-score x true b))
      (λ (b : leb most (length (numbered es)) ≡ false). omega (arith, added-score x false b, comparisons-few x (hits_of k es), hits_few k es))
      (either (leb most (length (numbered es))))
  added-few (value (refused n p)) = omega arith
  added-few (value withdrawn) = omega arith
  added-few (refused n p) = omega arith
  added-few withdrawn = omega arith

-- behind the steps of a history
module _ (k : ℕ) (steps : List (Step Event)) where
  compared-more : (e : Event) → comparisons_of k (came e ∷ steps) ≡ comparisons_of k steps + added_by (length_after k steps) e (records_of steps)
  unfolding comparisons_of
  compared-more e = refl

  pub compared-none : (e : Event) → added_by (length_after k steps) e (records_of steps) ≡ 0 → comparisons_of k (came e ∷ steps) ≡ comparisons_of k steps
  compared-none e h = compared-more e ∙ omega (arith, h)

  pub compared-next : (x : Float) → leb most (length (numbered (records_of steps))) ≡ false → comparisons_of k (came (value (value x)) ∷ steps) ≡ comparisons_of k steps + comparisons_with x (kept_of k steps)
  compared-next x free = compared-more (value (value x)) ∙ ap (λ (n : ℕ). comparisons_of k steps + n) (added-score (length_after k steps) (records_of steps) x false free)

  pub compared-full : (e : Event) → leb most (length (numbered (records_of steps))) ≡ true → comparisons_of k (came e ∷ steps) ≡ comparisons_of k steps
  compared-full e full = compared-none e (added_full (length_after k steps) (records_of steps) e full)

  pub compared-asked : (n : ℕ) → comparisons_of k (asked n ∷ steps) ≡ comparisons_of k steps
  unfolding comparisons_of
  compared-asked n = refl

  compared-each : (e : Event) → comparisons_of k (came e ∷ steps) ≤ comparisons_of k steps + length_after k steps
  compared-each e = omega (arith, compared-more e, added-few (length_after k steps) (records_of steps) e)

-- ---- all of them

-- no more than the length for each accepted record
module _ (k : ℕ) where
  all-answer : (steps : List (Step Event)) → comparisons_of k steps ≤ length (accepted_of (numbered (records_of steps))) * k → (a : Answer Float)
      → comparisons_of k (came (value a) ∷ steps) ≤ length (accepted_of (a ∷ numbered (records_of steps))) * k
  unfolding accepted_of
  all-answer steps so (value x) = rw length-append (omega (arith, so, compared-each k steps (value (value x)), length-few k steps, suc-mul (length (accepted_of (numbered (records_of steps)))) k))
  all-answer steps so (refused n p) = omega (arith, so, compared-none k steps (value (refused n p)) refl)
  all-answer steps so withdrawn = omega (arith, so, compared-none k steps (value withdrawn) refl)

  compared-all : (steps : List (Step Event)) → comparisons_of k steps ≤ length (accepted_of (numbered (records_of steps))) * k
  unfolding comparisons_of
  compared-all [] = omega arith
  compared-all (came (value a) ∷ steps) =
      ⊎_elim
      (λ (b : leb most (length (numbered (records_of steps))) ≡ true). rw (compared-full k steps (value a) b, numbered-full (records_of steps) a b) (compared-all steps))
      (λ (b : leb most (length (numbered (records_of steps))) ≡ false). rw (numbered_next (records_of steps) a b) (all-answer steps (compared-all steps) a))
      (either (leb most (length (numbered (records_of steps)))))
  compared-all (came (refused n p) ∷ steps) = rw (compared-none k steps (refused n p) refl, numbered-skipped (records_of steps) n p) (compared-all steps)
  compared-all (came withdrawn ∷ steps) = rw (compared-none k steps withdrawn refl, numbered-none (records_of steps)) (compared-all steps)
  compared-all (asked n ∷ steps) = compared-all steps

-- 4,294,967,295 records of 64 comparisons each
pub compared-ceiling : (k : ℕ) (steps : List (Step Event)) → k ≤ 64 → comparisons_of k steps ≤ most * 64
compared-ceiling k steps few = le_trans (compared-all k steps) (mul-le-mul (le_trans (accepted-few (numbered (records_of steps))) (numbered-few (records_of steps))) few)

pub load : (k : ℕ) (steps : List (Step Event)) → Load k steps
load k steps = record {
  each = compared-each k steps;
  refusals = λ n p. compared-none k steps (value (refused n p)) refl;
  withdrawals = compared-none k steps (value withdrawn) refl;
  unread = λ n p. compared-none k steps (refused n p) refl;
  full = compared-full k steps;
  shortenings = compared-asked k steps;
  all = compared-all k steps;
  ceiling = compared-ceiling k steps;
  upward = λ x f finites. comparisons-upward x (kept_of k steps) f (finite-hits (length_after k steps) (records_of steps) finites) (falling-hits (length_after k steps) (records_of steps) finites);
}

pub counted : Counted
unfolding comparisons_of numbered accepted_of lt beats before placed sorted count lengths_of least_length
counted = record { three = refl; two = refl; least = refl; hits = refl; numbers = refl; shorter = refl }

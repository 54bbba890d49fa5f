-- A shorter scan: its hits are the first of the hits, so it stays what its history leads to; and one that was shortened agrees with one that was opened so. Assumes nothing.
use Prim.Native.Nat.{ℕ, zero, suc, min, ◌≤◌}
use mathlib.Core.Path.{◌≡◌, refl, sym, ap, ap₂, ◌∙◌, subst}
use mathlib.Core.Bool.{Bool, true, false, cond}
use mathlib.Core.List.{List, [], ◌∷◌, map}
use mathlib.Core.Logic.{⊎_elim}
use native.Mathlib.Nat.{le_trans}
use native.Mathlib.Omega.{arith}
use borrow.Author.Tests.{eq-eqb, ne_eqb, ltb-false, le-ltb}
use lib.Dec.{eqb, ltb}
use lib.ListN.{length, take, length-take}
use lib.Seq.{take-take, take-nil}
use Rattle.error.specs.Answer.{Answer, value, refused, check, unless, accepted, done, after}
use Rattle.error.proofs.Chains.{or-false}
use Rattle.ranking.specs.declared.Hit.{Hit}
use Rattle.ranking.specs.Ranked.{sorted}
use Rattle.ranking.proofs.Ranking.{either}
use Rattle.scan.specs.declared.Tally.{Tally}
use Rattle.scan.specs.declared.Scan.{Scan}
use Rattle.scan.specs.Scans.{scan_of}
use Rattle.scan.specs.Opening.{open_of}
use Rattle.scan.specs.Events.{Event}
use Rattle.scan.specs.Shortening.{Step, came, asked, records_of, length_after, bad_shorter, short_tally, shorten_of, after_shortening}
use Rattle.scan.specs.History.{numbered, accepted_of, refused_of, withdrawn_of, hits_of, kept_of, Led}
use Rattle.scan.specs.AsOpened.{lengths_of, least_length, Agree, AsOpened}
use Rattle.scan.proofs.Placing.{map-take}
use Rattle.scan.proofs.Lengths.{length-asked, length-least, length-few, length_some}
use Rattle.scan.proofs.Load.{compared-asked}
use Rattle.scan.proofs.Opening.{open-passed}

-- ---- its hits

-- the first of the first are the first
take_min : {A : Type 0} (n m : ℕ) (xs : List A) → take (min n m) xs ≡ take m (take n xs)
take_min zero m xs = let e : min 0 m ≡ 0 = omega arith in ap (λ (i : ℕ). take i xs) e ∙ sym (take-nil m)
take_min (suc n) zero xs = let e : min (suc n) 0 ≡ 0 = omega arith in ap (λ (i : ℕ). take i xs) e
take_min (suc n) (suc m) [] = take-nil (min (suc n) (suc m))
take_min (suc n) (suc m) (x ∷ xs) =
    let e : min (suc n) (suc m) ≡ suc (min n m) = omega arith in
    ap (λ (i : ℕ). take i (x ∷ xs)) e ∙ ap (λ (l : List _). x ∷ l) (take_min n m xs)

-- a list begins with what hits say of themselves; its first places then say the same of the first hits
first-hits : {A H : Type 0} (f : H → A) (xs : List A) (hs : List H) (kept n : ℕ) → take kept xs ≡ map f hs → take (min kept n) xs ≡ map f (take n hs)
first-hits f xs hs kept n e = take_min kept n xs ∙ ap (take n) e ∙ sym (map-take f n hs)

-- ---- the scan

module _ (k : ℕ) (steps : List (Step Event)) (scan : Scan) (led : Led k steps scan) where
  -- a length that is given
  shorter-led : (n : ℕ) → length_after k (asked n ∷ steps) ≡ n → n ≤ scan.tally.length → Led k (asked n ∷ steps) (scan_of (short_tally scan.tally n) scan.numbers scan.scores)
  shorter-led n given le =
      let all = sorted (accepted_of (numbered (records_of steps))) in
      let hits : kept_of k (asked n ∷ steps) ≡ take n (kept_of k steps) =
      ap (λ (m : ℕ). take m all) given ∙ sym (take-take n (length_after k steps) all (omega (arith, led.long))) in
      let less : length_after k (asked n ∷ steps) ≤ length_after k steps = omega (arith, given, led.long, le) in
      record {
        some = led.some;
        few = led.few;
        long = sym given;
        numbers_room = le_trans less led.numbers_room;
        scores_room = le_trans less led.scores_room;
        hits = record {
          kept = omega (arith, led.hits.kept, length-take n (kept_of k steps)) ∙ sym (ap length hits);
          numbers = first-hits (λ (h : Hit). h.number) scan.numbers (kept_of k steps) scan.tally.kept n led.hits.numbers ∙ sym (ap (map (λ (h : Hit). h.number)) hits);
          scores = first-hits (λ (h : Hit). h.score) scan.scores (kept_of k steps) scan.tally.kept n led.hits.scores ∙ sym (ap (map (λ (h : Hit). h.score)) hits);
        };
        counts = record { taken = led.counts.taken; refusals = led.counts.refusals; withdrawals = led.counts.withdrawals };
        comparisons = led.comparisons ∙ sym (compared-asked k steps n);
      }

  -- a length that is refused
  stays-led : (n : ℕ) → length_after k (asked n ∷ steps) ≡ length_after k steps → Led k (asked n ∷ steps) scan
  stays-led n stays = record {
    some = led.some;
    few = led.few;
    long = led.long ∙ sym stays;
    numbers_room = rw stays led.numbers_room;
    scores_room = rw stays led.scores_room;
    hits = record { kept = rw stays led.hits.kept; numbers = rw stays led.hits.numbers; scores = rw stays led.hits.scores };
    counts = led.counts;
    comparisons = led.comparisons ∙ sym (compared-asked k steps n);
  }

-- ---- the answer

module _ (tally : Tally) (n : ℕ) where
  pub refused_none : n ≡ 0 → bad_shorter tally.length n ≡ true
  refused_none e = simp (eq-eqb n 0 e)

  pub refused-above : (n ≡ 0 → ⊥) → ltb tally.length n ≡ true → bad_shorter tally.length n ≡ true
  refused-above e h = simp (ne_eqb n 0 e, h)

  pub given-some : (n ≡ 0 → ⊥) → ltb tally.length n ≡ false → bad_shorter tally.length n ≡ false
  given-some e h = simp (ne_eqb n 0 e, h)

  shorten-answer : (b : Bool) → bad_shorter tally.length n ≡ b → shorten_of tally n ≡ unless (check b 25 0) (value (short_tally tally n))
  unfolding shorten_of
  shorten-answer b e = ap (λ (c : Bool). unless (check c 25 0) (value (short_tally tally n))) e

  -- what is answered and the tally beside it
  pub shorten-refused : bad_shorter tally.length n ≡ true → (refused 25 0 ≡ done (shorten_of tally n)) × (tally ≡ after (shorten_of tally n) tally)
  shorten-refused e = let a = shorten-answer true e in (sym (ap done a), sym (ap (λ (t : Answer Tally). after t tally) a))

  pub shorten-given : bad_shorter tally.length n ≡ false → {r : Tally} → r ≡ short_tally tally n → (accepted ≡ done (shorten_of tally n)) × (r ≡ after (shorten_of tally n) tally)
  shorten-given e h = let a = shorten-answer false e in (sym (ap done a), h ∙ sym (ap (λ (t : Answer Tally). after t tally) a))

-- ---- the history

pub shortened-led : (k : ℕ) (steps : List (Step Event)) (scan : Scan) (n : ℕ) → Led k steps scan → Led k (asked n ∷ steps) (after_shortening scan n)
shortened-led k steps scan n led =
    let same : (b : Bool) → bad_shorter scan.tally.length n ≡ b → length_after k (asked n ∷ steps) ≡ cond b (length_after k steps) n =
    λ b e. length-asked k n steps b (subst (λ (l : ℕ). bad_shorter l n ≡ b) led.long e) in
    let next : (b : Bool) → bad_shorter scan.tally.length n ≡ b → after_shortening scan n ≡ scan_of (after (unless (check b 25 0) (value (short_tally scan.tally n))) scan.tally) scan.numbers scan.scores =
    λ b e. ap (λ (a : Answer Tally). scan_of (after a scan.tally) scan.numbers scan.scores) (shorten-answer scan.tally n b e) in
    ⊎_elim
    (λ (b : bad_shorter scan.tally.length n ≡ true). subst (λ (s : Scan). Led k (asked n ∷ steps) s) (sym (next true b)) (stays-led k steps scan led n (same true b)))
    (λ (b : bad_shorter scan.tally.length n ≡ false). subst (λ (s : Scan). Led k (asked n ∷ steps) s) (sym (next false b)) (shorter-led k steps scan led n (same false b) (ltb-false scan.tally.length n (or-false (eqb n 0) (ltb scan.tally.length n) b).1)))
    (either (bad_shorter scan.tally.length n))

-- ---- as if opened so

-- the records alone are the same records, and leave the length
pub records-plain : {A : Type 0} (xs : List A) → records_of (map came xs) ≡ xs
records-plain [] = refl
records-plain (x ∷ xs) = ap (λ (l : List _). x ∷ l) (records-plain xs)

pub length-plain : {A : Type 0} (k : ℕ) (xs : List A) → length_after k (map came xs) ≡ k
length-plain k [] = refl
length-plain k (x ∷ xs) = length-plain k xs

-- two scans that histories led to, with the same records and the same length in force
pub agree-led : (k m : ℕ) (steps plain : List (Step Event)) (one other : Scan) → length_after k steps ≡ length_after m plain → records_of steps ≡ records_of plain → Led k steps one → Led m plain other → Agree one other
agree-led k m steps plain one other e f a b =
    let hits = ap₂ hits_of e f in
    record {
      long = a.long ∙ e ∙ sym b.long;
      kept = a.hits.kept ∙ ap length hits ∙ sym b.hits.kept;
      numbers = a.hits.numbers ∙ ap (map (λ (h : Hit). h.number)) hits ∙ sym b.hits.numbers;
      scores = a.hits.scores ∙ ap (map (λ (h : Hit). h.score)) hits ∙ sym b.hits.scores;
      taken = a.counts.taken ∙ ap (λ (es : List Event). length (numbered es)) f ∙ sym b.counts.taken;
      refusals = a.counts.refusals ∙ ap (λ (es : List Event). refused_of (numbered es)) f ∙ sym b.counts.refusals;
      withdrawals = a.counts.withdrawals ∙ ap (λ (es : List Event). withdrawn_of (numbered es)) f ∙ sym b.counts.withdrawals;
    }

-- a scan of 1 to 64 hits is opened
least-opened : {n : ℕ} → 1 ≤ n → n ≤ 64 → done (open_of n) ≡ accepted
least-opened {n} some few = ap done (open-passed n (λ (e : n ≡ 0). absurd (omega (arith, some, e))) (le-ltb 64 n few))

pub as-opened : (k : ℕ) (steps : List (Step Event)) → AsOpened k steps
as-opened k steps = record {
  least = length-least k steps;
  opens = λ some few. least-opened (omega (arith, length-least k steps, length_some k some steps)) (omega (arith, length-least k steps, length-few k steps, few));
  hits = ap₂ hits_of (length-least k steps ∙ sym (length-plain (least_length k (lengths_of steps)) (records_of steps))) (sym (records-plain (records_of steps)));
  agree = λ one other a b.
      agree-led k (least_length k (lengths_of steps)) steps (map came (records_of steps)) one other
      (length-least k steps ∙ sym (length-plain (least_length k (lengths_of steps)) (records_of steps)))
      (sym (records-plain (records_of steps)))
      a b;
}

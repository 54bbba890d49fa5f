-- A scan stays what its history leads to: an opened one, with no record yet; one that a record's answer enters; and one whose record was refused before it was read.
-- Assumes nothing.
use Prim.Native.Nat.{ℕ, zero, suc, ◌+◌, ◌-◌, min, ◌≤◌, ◌<◌}
use mathlib.Core.Path.{◌≡◌, refl, sym, ap, ap₂, ◌∙◌, subst}
use mathlib.Core.Bool.{true, false}
use mathlib.Core.List.{List, [], ◌∷◌}
use mathlib.Core.Logic.{⊎_elim}
use native.Mathlib.Nat.{mod-eq_of_lt}
use native.Mathlib.Omega.{arith}
use lib.Dec.{T, leb, ltb}
use lib.ListN.{length, take, drop, length-take}
use lib.Seq.{take_all, take_at}
use lib.Ieee.{Float}
use lib.Ieee.Scale.{finite}
use borrow.Author.Tests.{ltb-true, ltb-false, leb-false}
use Rattle.error.specs.Answer.{Answer, value, refused, withdrawn}
use Rattle.ranking.specs.declared.Hit.{Hit}
use Rattle.ranking.specs.Ranked.{beats, sorted}
use Rattle.ranking.specs.Sorting.{Finites}
use Rattle.ranking.proofs.Ranking.{either, insert-at}
use Rattle.scan.specs.declared.Scan.{Scan}
use Rattle.scan.specs.Opening.{empty_of}
use Rattle.scan.specs.Entering.{most, room_of, held_of, place_up, compared_up, one_more_number, comparisons_after, with_hit, same_hits, scored_in, with_answer, enter_of}
use Rattle.scan.specs.Events.{Event}
use Rattle.scan.specs.Shortening.{Step, came, records_of, length_after}
use Rattle.scan.specs.History.{numbered, accepted_of, refused_of, withdrawn_of, hits_of, comparisons_with, comparisons_of, Led}
use Rattle.scan.proofs.Placing.{place-within, between, put-length, put_count, put_in_lem}
use Rattle.scan.proofs.Histories.{FiniteAnswer, refused-few, withdrawn-few, numbered-full, numbered_next, numbered-skipped}
use Rattle.scan.proofs.Comparing.{none, scores_of, place_kept, compared-kept, unbeaten-before, beaten-behind, comparisons-upward}
use Rattle.scan.proofs.Lengths.{length_some}
use Rattle.scan.proofs.Load.{compared-none, compared-full, compared-next, compared-ceiling}
use Rattle.scan.proofs.Hits.{hits_few, hits_next, finite-hits, falling-hits, newest}

-- ---- opened, and refused before reading

pub opened-led : (k : ℕ) → 1 ≤ k → k ≤ 64 → Led k [] (empty_of k)
unfolding empty_of numbered accepted_of sorted refused_of withdrawn_of comparisons_of
opened-led zero some few = absurd (omega arith)
opened-led (suc k) some few = record {
  some = some;
  few = few;
  long = refl;
  numbers_room = few;
  scores_room = few;
  hits = record { kept = refl; numbers = refl; scores = refl };
  counts = record { taken = refl; refusals = refl; withdrawals = refl };
  comparisons = refl;
}

-- a record that takes no number and is compared with no hit leaves the scan
pub led-same : (k : ℕ) (steps : List (Step Event)) (scan : Scan) (e : Event) → numbered (e ∷ records_of steps) ≡ numbered (records_of steps) → comparisons_of k (came e ∷ steps) ≡ comparisons_of k steps
    → Led k steps scan → Led k (came e ∷ steps) scan
led-same k steps scan e same g led = record {
  some = led.some;
  few = led.few;
  long = led.long;
  numbers_room = led.numbers_room;
  scores_room = led.scores_room;
  hits = record { kept = rw same led.hits.kept; numbers = rw same led.hits.numbers; scores = rw same led.hits.scores };
  counts = record { taken = rw same led.counts.taken; refusals = rw same led.counts.refusals; withdrawals = rw same led.counts.withdrawals };
  comparisons = led.comparisons ∙ sym g;
}

pub skipped-led : (k : ℕ) (steps : List (Step Event)) (scan : Scan) (n p : ℕ) → Led k steps scan → Led k (came (refused n p) ∷ steps) scan
skipped-led k steps scan n p led = led-same k steps scan (refused n p) (numbered-skipped (records_of steps) n p) (compared-none k steps (refused n p) refl) led

-- ---- a record's answer

-- the last place: the kept hits or the last that has room
least_above : (n kept k : ℕ) → n ≤ kept → n < k → n ≤ min kept (k - 1)
least_above n kept k a b = omega arith

least-below : (kept k n : ℕ) → 1 ≤ k → k ≤ n → min kept (k - 1) < n
least-below kept k n a b = omega arith

module _ (opened : ℕ) (steps : List (Step Event)) (scan : Scan) (led : Led opened steps scan) where
  -- the length in force, and the records
  abbrev k : ℕ
  k = length_after opened steps

  abbrev es : List Event
  es = records_of steps

  some : 1 ≤ k
  some = length_some opened led.some steps

  room-is : room_of scan ≡ k
  room-is = omega (arith, led.long, led.numbers_room, led.scores_room)

  held-is : held_of scan ≡ scan.tally.kept
  held-is = omega (arith, room-is, led.hits.kept, hits_few k es)

  module _ (free : leb most scan.tally.taken ≡ false) where
    next : (a : Answer Float) → numbered (value a ∷ es) ≡ a ∷ numbered es
    next a = numbered_next es a (rw led.counts.taken at free)

    small : scan.tally.taken < most
    small = leb-false most scan.tally.taken free

    one_more : (n : ℕ) → n ≤ scan.tally.taken → one_more_number n ≡ suc n
    one_more n le = mod-eq_of_lt (omega (arith, small)) ∙ omega arith

    -- neither hits nor room change
    counted-led : (a : Answer Float) (hs : take k (sorted (accepted_of (a ∷ numbered es))) ≡ hits_of k es) (r w c : ℕ) → r ≡ refused_of (a ∷ numbered es) → w ≡ withdrawn_of (a ∷ numbered es) → c ≡ comparisons_of opened (came (value a) ∷ steps)
        → Led opened (came (value a) ∷ steps) (same_hits scan r w c)
    counted-led a hs r w c e g h = record {
      some = led.some;
      few = led.few;
      long = led.long;
      numbers_room = led.numbers_room;
      scores_room = led.scores_room;
      hits = record {
        kept = rw (next a, hs) led.hits.kept;
        numbers = rw (next a, hs) led.hits.numbers;
        scores = rw (next a, hs) led.hits.scores;
      };
      counts = record { taken = rw (next a) (ap suc led.counts.taken); refusals = rw (next a) e; withdrawals = rw (next a) g };
      comparisons = h;
    }

    refused-led : (n p : ℕ) → Led opened (came (value (refused n p)) ∷ steps) (with_answer scan (refused n p))
    unfolding accepted_of refused_of withdrawn_of
    refused-led n p =
        counted-led (refused n p) refl (one_more_number scan.tally.refused) scan.tally.withdrawn scan.tally.comparisons
        (one_more scan.tally.refused (omega (arith, led.counts.taken, led.counts.refusals, refused-few (numbered es))) ∙ ap suc led.counts.refusals)
        led.counts.withdrawals
        (led.comparisons ∙ sym (compared-none opened steps (value (refused n p)) refl))

    withdrawn-led : Led opened (came (value withdrawn) ∷ steps) (with_answer scan withdrawn)
    unfolding accepted_of refused_of withdrawn_of
    withdrawn-led =
        counted-led withdrawn refl scan.tally.refused (one_more_number scan.tally.withdrawn) scan.tally.comparisons
        led.counts.refusals
        (one_more scan.tally.withdrawn (omega (arith, led.counts.taken, led.counts.withdrawals, withdrawn-few (numbered es))) ∙ ap suc led.counts.withdrawals)
        (led.comparisons ∙ sym (compared-none opened steps (value withdrawn) refl))

    module _ (x : Float) (f : T (finite x)) (all : Finites (accepted_of (numbered es))) where
      abbrev at : ℕ
      at = place_up x scan.scores (held_of scan)

      among : at ≤ scan.tally.kept
      among = omega (arith, place-within x scan.scores (held_of scan), held-is)

      many : length (hits_of k es) ≡ scan.tally.kept
      many = sym led.hits.kept

      -- the place and the comparisons are those with the hits
      at-is : at ≡ place_up x (scores_of (hits_of k es)) (length (hits_of k es))
      at-is =
          ap (place_up x scan.scores) held-is
          ∙ sym (place_kept x scan.tally.kept scan.scores scan.tally.kept (omega arith))
          ∙ ap₂ (place_up x) led.hits.scores led.hits.kept

      compared_is : compared_up x scan.scores (held_of scan) ≡ comparisons_with x (hits_of k es)
      compared_is =
          ap (compared_up x scan.scores) held-is
          ∙ sym (compared-kept x scan.tally.kept scan.scores scan.tally.kept (omega arith))
          ∙ ap₂ (compared_up x) led.hits.scores led.hits.kept
          ∙ sym (comparisons-upward x (hits_of k es) f (finite-hits k es all) (falling-hits k es all))

      sum : scan.tally.comparisons + compared_up x scan.scores (held_of scan) ≡ comparisons_of opened (came (value (value x)) ∷ steps)
      sum = ap₂ ◌+◌ led.comparisons compared_is ∙ sym (compared-next opened steps x (rw led.counts.taken at free))

      -- none of it is cut off
      count-is : comparisons_after scan x ≡ comparisons_of opened (came (value (value x)) ∷ steps)
      count-is = mod-eq_of_lt (omega (arith, sum, compared-ceiling opened (came (value (value x)) ∷ steps) led.few)) ∙ sum

      -- the hits with the new one between them, as many as there is room for
      hits-between : take k (sorted (accepted_of (value x ∷ numbered es))) ≡ take k (between at (newest (numbered es) x) (hits_of k es))
      unfolding beats
      hits-between =
          hits_next k es x f all
          ∙ ap (take k) (insert-at at (newest (numbered es) x) none (hits_of k es) (omega (arith, among, many))
          (λ j l. unbeaten-before x (hits_of k es) f (finite-hits k es all) (falling-hits k es all) j (omega (arith, at-is)))
          (λ l. beaten-behind x (hits_of k es) f (finite-hits k es all) (falling-hits k es all) at (omega (arith, at-is)) l))

      -- behind all that there is room for: nothing moves
      behind-led : room_of scan ≤ at → Led opened (came (value (value x)) ∷ steps) (same_hits scan scan.tally.refused scan.tally.withdrawn (comparisons_after scan x))
      unfolding refused_of withdrawn_of
      behind-led out =
          counted-led (value x)
          (hits-between
          ∙ take_at (take at (hits_of k es)) (newest (numbered es) x ∷ drop at (hits_of k es)) k (omega (arith, length-take at (hits_of k es), among, many, room-is, hits_few k es))
          ∙ take_all at (hits_of k es) (omega (arith, many, room-is, hits_few k es)))
          scan.tally.refused scan.tally.withdrawn (comparisons_after scan x) led.counts.refusals led.counts.withdrawals count-is

      -- among them: it is put in
      among-led : at < room_of scan → Led opened (came (value (value x)) ∷ steps) (with_hit scan at x)
      unfolding refused_of withdrawn_of
      among-led room =
          let hit = newest (numbered es) x in
          let kept = scan.tally.kept in
          let last : min (held_of scan) (room_of scan - 1) ≡ min kept (k - 1) = ap (λ (n : ℕ). min n (room_of scan - 1)) held-is ∙ ap (λ (n : ℕ). min kept (n - 1)) room-is in
          let free : at < k = subst (λ (n : ℕ). at < n) room-is room in
          let full : kept ≤ k = omega (arith, many, hits_few k es) in
          let within : at ≤ min kept (k - 1) = least_above at kept k among free in
          record {
            some = led.some;
            few = led.few;
            long = led.long;
            numbers_room = rw (last, put-length at (min kept (k - 1)) scan.tally.taken scan.numbers within (least-below kept k (length scan.numbers) some led.numbers_room)) led.numbers_room;
            scores_room = rw (last, put-length at (min kept (k - 1)) x scan.scores within (least-below kept k (length scan.scores) some led.scores_room)) led.scores_room;
            hits = record {
              kept = rw (next (value x), hits-between, last) (sym (put_count (λ (h : Hit). h.number) hit (hits_of k es) scan.numbers at kept k led.hits.numbers led.hits.kept among full free led.numbers_room));
              numbers = rw (next (value x), hits-between, last, led.counts.taken) (put_in_lem (λ (h : Hit). h.number) hit (hits_of k es) scan.numbers at kept k led.hits.numbers led.hits.kept among full free led.numbers_room);
              scores = rw (next (value x), hits-between, last) (put_in_lem (λ (h : Hit). h.score) hit (hits_of k es) scan.scores at kept k led.hits.scores led.hits.kept among full free led.scores_room);
            };
            counts = record {
              taken = rw (next (value x)) (ap suc led.counts.taken);
              refusals = rw (next (value x)) led.counts.refusals;
              withdrawals = rw (next (value x)) led.counts.withdrawals;
            };
            comparisons = count-is;
          }

      scored-led : Led opened (came (value (value x)) ∷ steps) (scored_in scan at x)
      scored-led =
          ⊎_elim
          (λ (b : ltb at (room_of scan) ≡ true). rw b (among-led (ltb-true at (room_of scan) b)))
          (λ (b : ltb at (room_of scan) ≡ false). rw b (behind-led (ltb-false at (room_of scan) b)))
          (either (ltb at (room_of scan)))

    numbered-led : (a : Answer Float) → FiniteAnswer a → Finites (accepted_of (numbered es)) → Led opened (came (value a) ∷ steps) (with_answer scan a)
    numbered-led (value x) f all = scored-led x f all
    numbered-led (refused n p) f all = refused-led n p
    numbered-led withdrawn f all = withdrawn-led

pub entered-led : (k : ℕ) (steps : List (Step Event)) (scan : Scan) (a : Answer Float) → FiniteAnswer a → Finites (accepted_of (numbered (records_of steps))) → Led k steps scan
    → Led k (came (value a) ∷ steps) (enter_of scan a)
unfolding enter_of
entered-led k steps scan a f all led =
    ⊎_elim
    (λ (b : leb most scan.tally.taken ≡ true). rw b (led-same k steps scan (value a) (numbered-full (records_of steps) a (rw led.counts.taken at b)) (compared-full k steps (value a) (rw led.counts.taken at b)) led))
    (λ (b : leb most scan.tally.taken ≡ false). rw b (numbered-led k steps scan led b a f all))
    (either (leb most scan.tally.taken))

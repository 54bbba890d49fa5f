-- What entering a record's answer comes to, case by case: the scan is full, the record is refused or withdrawn, its score stands behind all that have room, or it is
-- put in. Assumes nothing.
use Rattle.std.proofs.Common.{◌≡◌, ℕ, suc, ◌+◌, ◌-◌, ◌%◌, ◌^◌, ◌<◌, ◌≤◌, min, Bool, cond, List, length, sym, ap, ◌∙◌, ap₂, add-one, arith, le-ltb, lt-ltb, le-leb}
use borrow.Author.Tests.{lt-leb}
use lib.Ieee.{Float}
use Rattle.error.specs.Answer.{Answer, value, refused, withdrawn}
use Rattle.error.specs.Refusals.{number_of, place_of}
use Rattle.error.specs.Outcomes.{says_score}
use Rattle.error.specs.declared.Refusal.{Refusal}
use Rattle.error.specs.declared.Scored.{Scored}
use Rattle.error.specs.declared.Scored.TheVariants.{Score, Refused, Withdrawn}
use Rattle.scan.specs.declared.Tally.{Tally}
use Rattle.scan.specs.declared.Scan.{Scan}
use Rattle.scan.specs.Scans.{scan_of, tally_of}
use Rattle.scan.specs.Entering.{most, room_of, held_of, place_up, compared_up, put_in, comparisons_after, scored_in, with_hit, same_hits, with_answer, enter_of}

module _ (t : Tally) (ns : List ℕ) (ss : List Float) where
  abbrev scan : Scan
  scan = scan_of t ns ss

  -- the taken are counted as the program counts them
  counted-more : (refusals withdrawals compared : ℕ) → scan_of (tally_of t.length t.kept (t.taken + 1) refusals withdrawals compared) ns ss ≡ same_hits scan refusals withdrawals compared
  counted-more refusals withdrawals compared = ap (λ (n : ℕ). scan_of (tally_of t.length t.kept n refusals withdrawals compared) ns ss) (add-one t.taken)

  -- two scans of the same length and counts of refused and withdrawn, part by part
  alike : {k k' n n' o o' : ℕ} {ms ms' : List ℕ} {bs bs' : List Float} → k ≡ k' → n ≡ n' → o ≡ o' → ms ≡ ms' → bs ≡ bs'
      → scan_of (tally_of t.length k n t.refused t.withdrawn o) ms bs ≡ scan_of (tally_of t.length k' n' t.refused t.withdrawn o') ms' bs'
  alike {k' = k'} {n = n} {n' = n'} {o = o} {o' = o'} {ms = ms} {ms' = ms'} {bs = bs} a b c d e =
      ap (λ (m : ℕ). scan_of (tally_of t.length m n t.refused t.withdrawn o) ms bs) a
      ∙ ap (λ (m : ℕ). scan_of (tally_of t.length k' m t.refused t.withdrawn o) ms bs) b
      ∙ ap (λ (m : ℕ). scan_of (tally_of t.length k' n' t.refused t.withdrawn m) ms bs) c
      ∙ ap (λ (l : List ℕ). scan_of (tally_of t.length k' n' t.refused t.withdrawn o') l bs) d
      ∙ ap (scan_of (tally_of t.length k' n' t.refused t.withdrawn o') ms') e

  -- ---- a score

  module _ (x : Float) {rest room held at compared : ℕ} (shorter : rest ≡ min (length ns) (length ss)) (roomy : room ≡ min t.length rest) (there : held ≡ min t.kept room)
      (placed : at ≡ place_up x ss held) (made : compared ≡ compared_up x ss held) where
    room-is : room ≡ room_of scan
    room-is = roomy ∙ ap (min t.length) shorter

    held-is : held ≡ held_of scan
    held-is = there ∙ ap (min t.kept) room-is

    place_is : place_up x ss (held_of scan) ≡ at
    place_is = sym (placed ∙ ap (place_up x ss) held-is)

    compared_is : {all : ℕ} → all ≡ (t.comparisons + compared) % 2 ^ 64 → all ≡ comparisons_after scan x
    compared_is e = e ∙ ap (λ (m : ℕ). (t.comparisons + m) % 2 ^ 64) (made ∙ ap (compared_up x ss) held-is)

    pub entered-out : {all : ℕ} → all ≡ (t.comparisons + compared) % 2 ^ 64 → room ≤ at
        → scan_of (tally_of t.length t.kept (t.taken + 1) t.refused t.withdrawn all) ns ss ≡ scored_in scan (place_up x ss (held_of scan)) x
    entered-out {all} e h =
        counted-more t.refused t.withdrawn all
        ∙ ap (same_hits scan t.refused t.withdrawn) (compared_is e)
        ∙ sym (ap (λ (b : Bool). cond b (with_hit scan (place_up x ss (held_of scan)) x) (same_hits scan t.refused t.withdrawn (comparisons_after scan x))) (le-ltb (place_up x ss (held_of scan)) (room_of scan) (omega (arith, h, room-is, place_is))))

    pub entered-in : {all last : ℕ} {ns' : List ℕ} {ss' : List Float} → all ≡ (t.comparisons + compared) % 2 ^ 64 → at < room → last ≡ min held (room - 1) → ns' ≡ put_in at last t.taken ns → ss' ≡ put_in at last x ss
        → scan_of (tally_of t.length (last + 1) (t.taken + 1) t.refused t.withdrawn all) ns' ss' ≡ scored_in scan (place_up x ss (held_of scan)) x
    entered-in {last = last} e h l n s =
        let end : last ≡ min (held_of scan) (room_of scan - 1) = l ∙ ap (λ (m : ℕ). min m (room - 1)) held-is ∙ ap (λ (m : ℕ). min (held_of scan) (m - 1)) room-is in
        alike (add-one last ∙ ap suc end) (add-one t.taken) (compared_is e) (n ∙ ap₂ (λ (i j : ℕ). put_in i j t.taken ns) (sym place_is) end) (s ∙ ap₂ (λ (i j : ℕ). put_in i j x ss) (sym place_is) end)
        ∙ sym (ap (λ (b : Bool). cond b (with_hit scan (place_up x ss (held_of scan)) x) (same_hits scan t.refused t.withdrawn (comparisons_after scan x))) (lt-ltb (place_up x ss (held_of scan)) (room_of scan) (omega (arith, h, room-is, place_is))))

  -- ---- the whole

  pub entered-full : (a : Answer Float) → most ≤ t.taken → scan ≡ enter_of scan a
  unfolding enter_of
  entered-full a h = sym (simp (le-leb most t.taken h))

  module _ (h : t.taken < most) (said : Scored) where
    entered-some : (a : Answer Float) → says_score said ≡ a → with_answer scan a ≡ enter_of scan (says_score said)
    unfolding enter_of
    entered-some a e = sym (simp (lt-leb most t.taken h) (ap (with_answer scan) e))

    pub entered-scored : (x : Float) {r : Scan} → said ≡ Score x → r ≡ scored_in scan (place_up x ss (held_of scan)) x → r ≡ enter_of scan (says_score said)
    entered-scored x e f = f ∙ entered-some (value x) (ap says_score e)

    pub entered-refused : (refusal : Refusal) {r : ℕ} → said ≡ Refused refusal → r ≡ (t.refused + 1) % 2 ^ 32 → scan_of (tally_of t.length t.kept (t.taken + 1) r t.withdrawn t.comparisons) ns ss ≡ enter_of scan (says_score said)
    entered-refused refusal {r} e f = counted-more r t.withdrawn t.comparisons ∙ ap (λ (m : ℕ). same_hits scan m t.withdrawn t.comparisons) f ∙ entered-some (refused (number_of refusal) (place_of refusal)) (ap says_score e)

    pub entered-withdrawn : {r : ℕ} → said ≡ Withdrawn → r ≡ (t.withdrawn + 1) % 2 ^ 32 → scan_of (tally_of t.length t.kept (t.taken + 1) t.refused r t.comparisons) ns ss ≡ enter_of scan (says_score said)
    entered-withdrawn {r} e f = counted-more t.refused r t.comparisons ∙ ap (λ (m : ℕ). same_hits scan t.refused m t.comparisons) f ∙ entered-some withdrawn (ap says_score e)
